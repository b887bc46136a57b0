-- Values field by field: for the loop of decoders.
use Rattle.mum_fields.proofs.Common.{◌≡◌, ℕ, List, [], ◌∷◌, refl, Entry, Kind, Label, Optional, Required, RequiredOr, Repeated, Value, Layout, Nothing, Field, Blocks, Values, value_after, values_after}

value_after-nothing : (label : Label) (kind : Kind) (number : ℕ) (before : Value label kind) → value_after label kind number before [] ≡ before
value_after-nothing Optional kind number before = refl
value_after-nothing Required kind number before = refl
value_after-nothing (RequiredOr other) kind number before = refl
value_after-nothing Repeated kind number before = refl

value_after-next : (label : Label) (kind : Kind) (number : ℕ) (before : Value label kind) (e : Entry) (es : List Entry)
    → value_after label kind number before (e ∷ es) ≡ value_after label kind number (value_after label kind number before (e ∷ [])) es
value_after-next Optional kind number before e es = refl
value_after-next Required kind number before e es = refl
value_after-next (RequiredOr other) kind number before e es = refl
value_after-next Repeated kind number before e es = refl

-- no fields change nothing
pub after-nothing : (form : Layout) (values : Values form) → values_after form values [] ≡ values
after-nothing Nothing values = refl
after-nothing (Field label kind number others) values = rw (value_after-nothing label kind number values.0, after-nothing others values.1) refl
after-nothing (Blocks inside number others) values = rw (after-nothing others values.1) refl

-- one field, and then the rest
pub after-next : (form : Layout) (values : Values form) (e : Entry) (es : List Entry) → values_after form values (e ∷ es) ≡ values_after form (values_after form values (e ∷ [])) es
after-next Nothing values e es = refl
after-next (Field label kind number others) values e es = rw (value_after-next label kind number values.0 e es, after-next others values.1 e es) refl
after-next (Blocks inside number others) values e es = rw (after-next others values.1 e es) refl
