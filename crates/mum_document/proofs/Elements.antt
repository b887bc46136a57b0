-- Lists, element by element.
use Rattle.mum_document.proofs.Common.{◌≡◌, ℕ, suc, ◌+◌, ◌<◌, List, [], ◌∷◌, ◌++◌, length, get_or, take, drop, fold, map, Option, None, refl, sym, ap, ◌∙◌, add-one, drop-cons, append-nil, append_assoc, map-append, take_more, flat_map, flat_map-append, fold-append, Data, view, Value, DocumentError, Fault, place_text, within, each_fault, elements_fault, Names}
use Rattle.mum_document.proofs.First.{first, or_else-none}

-- the values from a place on
pub drop_here : (values : List Value) (i : ℕ) (v : Value) → v ≡ get_or values i v → i < length values → drop i values ≡ v ∷ drop (i + 1) values
drop_here values i v is inside =
    drop-cons values i v inside ∙ ap (λ x. x ∷ drop (suc i) values) (sym is) ∙ ap (λ k. v ∷ drop k values) (sym (add-one i))

module _ {Met : Type 0} (fault : Met → Data → Option Fault) (next : Met → Data → Met) where
  pub elements_step : (met : Met) (values : List Value) (i : ℕ) (v : Value) → v ≡ get_or values i v → i < length values → within (place_text i) (fault met (view v)) ≡ None
      → elements_fault fault next met i (map view (drop i values)) ≡ elements_fault fault next (next met (view v)) (i + 1) (map view (drop (i + 1) values))
  elements_step met values i v is inside none = rw (drop_here values i v is inside) (or_else-none _ _ none)

  pub elements_stop : (e : DocumentError) (met : Met) (values : List Value) (i : ℕ) (v : Value) → v ≡ get_or values i v → i < length values → Names e (within (place_text i) (fault met (view v)))
      → Names e (elements_fault fault next met i (map view (drop i values)))
  elements_stop e met values i v is inside names = rw (drop_here values i v is inside) (first e _ _ names)

module _ (fault : Data → Option Fault) where
  pub each_step : (values : List Value) (i : ℕ) (v : Value) → v ≡ get_or values i v → i < length values → within (place_text i) (fault (view v)) ≡ None
      → each_fault fault i (map view (drop i values)) ≡ each_fault fault (i + 1) (map view (drop (i + 1) values))
  each_step values i v is inside none = rw (drop_here values i v is inside) (or_else-none _ _ none)

  pub each_stop : (e : DocumentError) (values : List Value) (i : ℕ) (v : Value) → v ≡ get_or values i v → i < length values → Names e (within (place_text i) (fault (view v)))
      → Names e (each_fault fault i (map view (drop i values)))
  each_stop e values i v is inside names = rw (drop_here values i v is inside) (first e _ _ names)

-- one value more
pub take_here : (values : List Value) (i : ℕ) (v : Value) → v ≡ get_or values i v → i < length values → take (i + 1) values ≡ take i values ++ v ∷ []
take_here values i v is inside = take_more values i v inside ∙ ap (λ x. take i values ++ x ∷ []) (sym is)

pub pushed : {X : Type 0} (f : Data → X) (start before after : List X) (x : X) (values : List Value) (i : ℕ) (v : Value) → v ≡ get_or values i v → i < length values
    → before ≡ start ++ map f (map view (take i values)) → after ≡ before ++ x ∷ [] → x ≡ f (view v) → after ≡ start ++ map f (map view (take (i + 1) values))
pushed f start before after x values i v is inside so_far more new =
    rw (more, so_far, new, take_here values i v is inside, map-append view (take i values) (v ∷ []), map-append f (map view (take i values)) (view v ∷ [])) (append_assoc start _ _)

pub pushed_all : {X : Type 0} (f : Data → List X) (start before after : List X) (values : List Value) (i : ℕ) (v : Value) → v ≡ get_or values i v → i < length values
    → before ≡ start ++ flat_map f (map view (take i values)) → after ≡ before ++ f (view v) → after ≡ start ++ flat_map f (map view (take (i + 1) values))
pushed_all f start before after values i v is inside so_far more =
    rw (more, so_far, take_here values i v is inside, map-append view (take i values) (v ∷ []), flat_map-append f (map view (take i values)) (view v ∷ []), append-nil) (append_assoc start _ _)

pub folded : {Met : Type 0} (next : Met → Data → Met) (start before after : Met) (values : List Value) (i : ℕ) (v : Value) → v ≡ get_or values i v → i < length values
    → before ≡ fold next start (map view (take i values)) → after ≡ next before (view v) → after ≡ fold next start (map view (take (i + 1) values))
folded next start before after values i v is inside so_far more =
    rw (more, so_far, take_here values i v is inside, map-append view (take i values) (v ∷ []), fold-append next start (map view (take i values)) (view v ∷ [])) refl
