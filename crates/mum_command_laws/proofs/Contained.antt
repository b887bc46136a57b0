-- What is in a list of parcels.
use Rattle.mum_command_laws.proofs.Common.{◌≡◌, ◌⊎◌, ℕ, ◌==◌, ◌||◌, Bool, true, false, true≢false, not, cond, List, [], ◌∷◌, ◌++◌, map, refl, ap, sym, ◌∙◌, subst, arith, inl, inr, ⊎_elim, All, Contains, filter, flat_map, list_any, cases_Bool, eqb-true, or_left, or_right, All-cons, All-contains, All-contains_itself, All-nil, All-weaker, Contains-append_left, Contains-append_right, Contains-get_or, is_among, ChannelId, User, all_to_each, parcel, to_each, Notice, ReachesAll}

pub first_in : {X : Type 0} (x : X) (xs : List X) → Contains (x ∷ xs) x
first_in x xs = Contains-get_or (x ∷ xs) 0 x (omega arith)

pub later_in : {X : Type 0} (x y : X) (xs : List X) → Contains xs y → Contains (x ∷ xs) y
later_in x y xs there = Contains-append_right (x ∷ []) xs y there

pub same_list : {X : Type 0} (xs ys : List X) (x : X) → xs ≡ ys → Contains xs x → Contains ys x
same_list xs ys x same there = subst (λ l. Contains l x) same there

pub in_map : {X Y : Type 0} (f : X → Y) (xs : List X) → All (λ x. Contains (map f xs) (f x)) xs
in_map f [] = All-nil (λ x. Contains [] (f x))
in_map f (x ∷ xs) =
    All-cons (λ y. Contains (map f (x ∷ xs)) (f y)) x xs (first_in (f x) (map f xs))
    (All-weaker (λ y. Contains (map f xs) (f y)) (λ y. Contains (map f (x ∷ xs)) (f y)) (λ y there. later_in (f x) (f y) (map f xs) there) xs (in_map f xs))

pub in_flat_map : {X Y : Type 0} (f : X → List Y) (xs : List X) → All (λ x. All (Contains (flat_map f xs)) (f x)) xs
in_flat_map f [] = All-nil (λ x. All (Contains []) (f x))
in_flat_map f (x ∷ xs) =
    All-cons (λ y. All (Contains (flat_map f (x ∷ xs))) (f y)) x xs
    (All-weaker (Contains (f x)) (Contains (flat_map f (x ∷ xs))) (λ y there. Contains-append_left (f x) (flat_map f xs) y there) (f x) (All-contains_itself (f x)))
    (All-weaker (λ y. All (Contains (flat_map f xs)) (f y)) (λ y. All (Contains (flat_map f (x ∷ xs))) (f y))
    (λ y all. All-weaker (Contains (flat_map f xs)) (Contains (flat_map f (x ∷ xs))) (λ z there. Contains-append_right (f x) (flat_map f xs) z there) (f y) all)
    xs (in_flat_map f xs))

pub of_all : {X : Type 0} (P : X → Type 0) (xs : List X) (x : X) → Contains xs x → All P xs → P x
of_all P xs x there all = All-contains P xs x all there

-- a frame that goes to each reaches all
pub to_each_reaches : (users : List User) (frame : List ℕ) → ReachesAll (to_each users frame) frame users
to_each_reaches users frame = in_map (parcel frame) users

pub each_reaches : (users : List User) (frames : List (List ℕ)) → All (λ frame. ReachesAll (all_to_each users frames) frame users) frames
each_reaches users frames =
    All-weaker (λ frame. All (Contains (all_to_each users frames)) (to_each users frame)) (λ frame. ReachesAll (all_to_each users frames) frame users)
    (λ frame all. each_of users frame all users (in_map (parcel frame) users)) frames (in_flat_map (to_each users) frames)
  where
    each_of : (users : List User) (frame : List ℕ) → All (Contains (all_to_each users frames)) (to_each users frame)
        → (more : List User) → All (λ user. Contains (to_each users frame) (parcel frame user)) more → ReachesAll (all_to_each users frames) frame more
    each_of users frame all more there =
        All-weaker (λ user. Contains (to_each users frame) (parcel frame user)) (λ user. Contains (all_to_each users frames) (parcel frame user))
        (λ user here. All-contains (Contains (all_to_each users frames)) (to_each users frame) (parcel frame user) all here) more there

pub reaches_in : (sent more : List Notice) (frame : List ℕ) (users : List User) → ((notice : Notice) → Contains sent notice → Contains more notice)
    → ReachesAll sent frame users → ReachesAll more frame users
reaches_in sent more frame users within reaches =
    All-weaker (λ user. Contains sent (parcel frame user)) (λ user. Contains more (parcel frame user)) (λ user there. within (parcel frame user) there) users reaches

-- ---- a part of eight lists

module _ {X : Type 0} (a b c d e f g h : List X) (x : X) where
  left : (xs ys : List X) → Contains xs x → Contains (xs ++ ys) x
  left xs ys there = Contains-append_left xs ys x there

  pub in_first : Contains a x → Contains (a ++ b ++ c ++ d ++ e ++ f ++ g ++ h) x
  in_first there = left _ h (left _ g (left _ f (left _ e (left _ d (left _ c (left _ b there))))))

  pub in_third : Contains c x → Contains (a ++ b ++ c ++ d ++ e ++ f ++ g ++ h) x
  in_third there = left _ h (left _ g (left _ f (left _ e (left _ d (Contains-append_right (a ++ b) c x there)))))

  pub in_second : Contains b x → Contains (a ++ b ++ c ++ d ++ e ++ f ++ g ++ h) x
  in_second there = left _ h (left _ g (left _ f (left _ e (left _ d (left _ c (Contains-append_right a b x there))))))

  pub in_fourth : Contains d x → Contains (a ++ b ++ c ++ d ++ e ++ f ++ g ++ h) x
  in_fourth there = left _ h (left _ g (left _ f (left _ e (Contains-append_right (a ++ b ++ c) d x there))))

  pub in_sixth : Contains f x → Contains (a ++ b ++ c ++ d ++ e ++ f ++ g ++ h) x
  in_sixth there = left _ h (left _ g (Contains-append_right (a ++ b ++ c ++ d ++ e) f x there))

  pub in_seventh : Contains g x → Contains (a ++ b ++ c ++ d ++ e ++ f ++ g ++ h) x
  in_seventh there = left _ h (Contains-append_right (a ++ b ++ c ++ d ++ e ++ f) g x there)

-- ---- tests and lists

pub any_of : {X : Type 0} (p : X → Bool) (xs : List X) → All (λ x. p x ≡ true → list_any p xs ≡ true) xs
any_of p [] = All-nil (λ x. p x ≡ true → list_any p [] ≡ true)
any_of p (x ∷ xs) =
    All-cons (λ y. p y ≡ true → list_any p (x ∷ xs) ≡ true) x xs (λ on. or_left (p x) (list_any p xs) on)
    (All-weaker (λ y. p y ≡ true → list_any p xs ≡ true) (λ y. p y ≡ true → list_any p (x ∷ xs) ≡ true)
    (λ y some on. or_right (p x) (list_any p xs) (some on)) xs (any_of p xs))

pub passing_in : {X : Type 0} (p : X → Bool) (xs : List X) → All (λ x. p x ≡ true → Contains (filter p xs) x) xs
passing_in p [] = All-nil (λ x. p x ≡ true → Contains [] x)
passing_in {X} p (x ∷ xs) = step (p x) refl (passing_in p xs)
  where
    step : (b : Bool) → p x ≡ b → All (λ y. p y ≡ true → Contains (filter p xs) y) xs
        → All (λ y. p y ≡ true → Contains (cond b (x ∷ filter p xs) (filter p xs)) y) (x ∷ xs)
    step true is rest =
        All-cons (λ y. p y ≡ true → Contains (x ∷ filter p xs) y) x xs (λ on. first_in x (filter p xs))
        (All-weaker (λ y. p y ≡ true → Contains (filter p xs) y) (λ y. p y ≡ true → Contains (x ∷ filter p xs) y)
        (λ y there on. later_in x y (filter p xs) (there on)) xs rest)
    step false is rest = All-cons (λ y. p y ≡ true → Contains (filter p xs) y) x xs (λ on. absurd (true≢false (sym on ∙ is))) rest

-- each passes the test, or is listed among those that do not
pub passes_or_listed : {X Y : Type 0} (p : X → Bool) (f : X → Y) (xs : List X)
    → All (λ x. (p x ≡ true) ⊎ Contains (map f (filter (λ y. not (p y)) xs)) (f x)) xs
passes_or_listed {X} {Y} p f xs =
    All-weaker (λ x. not (p x) ≡ true → Contains (filter (λ y. not (p y)) xs) x) (λ x. (p x ≡ true) ⊎ Contains (map f (filter (λ y. not (p y)) xs)) (f x))
    (λ x there. either (p x) refl there) xs (passing_in (λ y. not (p y)) xs)
  where
    either : {x : X} (b : Bool) → p x ≡ b → (not (p x) ≡ true → Contains (filter (λ y. not (p y)) xs) x)
        → (p x ≡ true) ⊎ Contains (map f (filter (λ y. not (p y)) xs)) (f x)
    either true is there = inl is
    either {x} false is there =
        inr (All-contains (λ y. Contains (map f (filter (λ z. not (p z)) xs)) (f y)) (filter (λ z. not (p z)) xs) x (in_map f (filter (λ z. not (p z)) xs)) (there (ap not is)))

-- a channel that is among these is in the list
pub among_in : (ids : List ChannelId) (id : ChannelId) → is_among ids id ≡ true → Contains ids id
among_in [] id among = absurd (true≢false (sym among))
among_in (one ∷ ids) id among =
    ⊎_elim
    (λ (on : (one.0 == id.0) ≡ true).
    let same : one ≡ id = ap (λ (n : ℕ). record { 0 = n }) (eqb-true one.0 id.0 on) in
    subst (λ (c : ChannelId). Contains (one ∷ ids) c) same (first_in one ids))
    (λ (off : (one.0 == id.0) ≡ false). later_in one id ids (among_in ids id (sym (ap (λ (b : Bool). b || is_among ids id) off) ∙ among)))
    (cases_Bool (one.0 == id.0))
