use Rattle.mum_control.proofs.Common.{◌≡◌, ◌∙◌, Option, Some, ap, length, refl, rules, subst, sym, arith, Slot, SLOTS, StateValue, current, ControlFacts, slot_of, EmptiesPost}
use Rattle.mum_control.proofs.control.Control.empty_post.Goals as goal

pub empty_at-requires : goal.empty_at-requires
empty_at-requires g c =
    let each : length c.self.inside.posts.items ≡ SLOTS = c.self.invariant.box_each in
    let low = c.in-Some.ensures.below in
    omega (arith, each, low, c.from-place.ensures)

pub returns-in_default : goal.returns-in_default
returns-in_default g c =
    let slot = c.slot_of.ensures.slot ∙ ap (λ (s : StateValue). slot_of s c.args.session) (c.latest.ensures ∙ ap current c.self.view_is) in
    subst (λ (o : Option Slot). EmptiesPost c.args.self.now o c.args.self.now) (sym c.in_default.is ∙ slot) refl

pub returns : goal.returns
returns g c =
    let inside = c.self.inside in
    let after : ControlFacts = record { publisher = inside.edits; posts = c.empty_at.new.posts.items; pending = inside.pending; lagged = inside.lagged.items; mark = inside.mark } in
    let slot = c.slot_of.ensures.slot ∙ ap (λ (s : StateValue). slot_of s c.args.session) (c.latest.ensures ∙ ap current c.self.view_is) in
    let emptied : EmptiesPost c.args.self.now (Some c.in-Some.slot) after = search rules in
    subst (λ (o : Option Slot). EmptiesPost c.args.self.now o after) (sym c.in-Some.is ∙ slot) emptied
