-- What is looked up in order is what a text names.
use Rattle.mum_notify.proofs.Common.{◌≡◌, ℕ, ◌==◌, ◌||◌, ◌&&◌, ◌∙◌, Bool, true, false, not, List, [], ◌∷◌, length, map, get_or, Result, Ok, Err, inl, inr, refl, sym, ap, arith, nat_cmp_total, All, list_any, IsBinarySearchResult, IsSearchInRange, IsSorted, nat_cmp, is_ok, Less, Equal, Greater, cases_lt, nat_tests, list_any_at, list_any_none, searchable_from_sorted, is_among, ChannelId, SessionId, is_below, path, Row, User, StateValue, numbers, ListAlike, lists, NamesThese, is_for, is_named, is_reached, may_text, session_numbers, Named}

-- ---- binary search

same_number : (a b : ℕ) → nat_cmp a b ≡ Equal → (a == b) ≡ true
same_number a b same = grind (arith, nat_tests)

lower_number : (a b : ℕ) → nat_cmp a b ≡ Less → (a == b) ≡ false
lower_number a b less = grind (arith, nat_tests)

higher_number : (a b : ℕ) → nat_cmp a b ≡ Greater → (a == b) ≡ false
higher_number a b greater = grind (arith, nat_tests)

-- it finds a number exactly where it is listed
pub found_by_halving : (xs : List ℕ) (n : ℕ) → IsSorted nat_cmp xs → (r : Result ℕ ℕ) → IsSearchInRange r (length xs) → IsBinarySearchResult (λ y. nat_cmp y n) xs r → is_ok r ≡ lists xs n
found_by_halving xs n sorted (Ok i) within equal = sym (list_any_at (λ one. one == n) xs i n within (same_number (get_or xs i n) n (equal n)))
found_by_halving xs n sorted (Err i) within parted = sym (list_any_none (λ one. one == n) xs other)
  where
    other : All (λ one. (one == n) ≡ false) xs
    other j d lt = elim (cases_lt j i) [
      | inl below ↦ lower_number (get_or xs j d) n ((parted (searchable_from_sorted nat_cmp_total (λ (y : ℕ). y) xs n sorted)).0 j d (omega arith) below)
      | inr above ↦ higher_number (get_or xs j d) n ((parted (searchable_from_sorted nat_cmp_total (λ (y : ℕ). y) xs n sorted)).1 j d above lt)
    ]

-- ---- lists that are scanned

any_same : {X : Type 0} (p q : X → Bool) → ((x : X) → p x ≡ q x) → (xs : List X) → list_any p xs ≡ list_any q xs
any_same p q same [] = refl
any_same p q same (x ∷ xs) = ap (λ (b : Bool). b || list_any p xs) (same x) ∙ ap (λ (b : Bool). q x || b) (any_same p q same xs)

any_map : {X : Type 0} (f : X → ℕ) (n : ℕ) (xs : List X) → list_any (λ one. one == n) (map f xs) ≡ list_any (λ x. f x == n) xs
any_map f n [] = refl
any_map f n (x ∷ xs) = ap (λ (b : Bool). (f x == n) || b) (any_map f n xs)

none_of : {X : Type 0} (xs : List X) → list_any (λ x. false) xs ≡ false
none_of [] = refl
none_of (x ∷ xs) = none_of xs

crossed : (a b c d : Bool) → ((a || b) || (c || d)) ≡ ((a || c) || (b || d))
crossed true b c d = refl
crossed false true true d = refl
crossed false true false d = refl
crossed false false c d = refl

any_or : {X : Type 0} (p q : X → Bool) (xs : List X) → list_any (λ x. p x || q x) xs ≡ (list_any p xs || list_any q xs)
any_or p q [] = refl
any_or p q (x ∷ xs) = ap (λ (b : Bool). (p x || q x) || b) (any_or p q xs) ∙ crossed (p x) (q x) (list_any p xs) (list_any q xs)

-- whether one of these and one of those belong together, whichever are scanned first
any_swap : {X Y : Type 0} (r : X → Y → Bool) (xs : List X) (ys : List Y) → list_any (λ x. list_any (r x) ys) xs ≡ list_any (λ y. list_any (λ x. r x y) xs) ys
any_swap r [] ys = sym (none_of ys)
any_swap r (x ∷ xs) ys = ap (λ (b : Bool). list_any (r x) ys || b) (any_swap r xs ys) ∙ sym (any_or (r x) (λ y. list_any (λ x. r x y) xs) ys)

turned : (a b : ℕ) → (a == b) ≡ (b == a)
turned a b = grind (arith, nat_tests)

-- ---- what a text names

named_alike : (found : List ℕ) (sessions : List SessionId) (user : User) → ListAlike found (session_numbers sessions) → lists found user.session.0 ≡ is_named sessions user
named_alike found sessions user alike = alike user.session.0 ∙ any_map (λ (session : SessionId). session.0) user.session.0 sessions

among_alike : (found : List ℕ) (ids : List ChannelId) (id : ChannelId) → ListAlike found (numbers ids) → lists found id.0 ≡ is_among ids id
among_alike found ids id alike = alike id.0 ∙ any_map (λ (one : ChannelId). one.0) id.0 ids

below_alike : (rows : List Row) (found : List ℕ) (tops : List ChannelId) (id : ChannelId) → ListAlike found (numbers tops) → list_any (λ (channel : ChannelId). lists found channel.0) (path rows id) ≡ list_any (λ top. is_below rows top id) tops
below_alike rows found tops id alike =
    any_same (λ (channel : ChannelId). lists found channel.0) (λ channel. list_any (λ (top : ChannelId). channel.0 == top.0) tops)
    (λ channel. among_alike found tops channel alike ∙ any_same (λ (top : ChannelId). top.0 == channel.0) (λ top. channel.0 == top.0) (λ top. turned top.0 channel.0) tops)
    (path rows id)
    ∙ sym (any_swap (λ (top channel : ChannelId). channel.0 == top.0) tops (path rows id))

all_alike : (f : Bool → Bool → Bool → Bool) (a b c d e g : Bool) → a ≡ d → b ≡ e → c ≡ g → f a b c ≡ f d e g
all_alike f a b c d e g one two three = ap (λ x. f x b c) one ∙ ap (λ x. f d x c) two ∙ ap (λ x. f d e x) three

-- the text is for whom it reaches
pub reached_alike : (state : StateValue) (actor : SessionId) (sessions : List SessionId) (channels trees : List ChannelId) (named : Named) (user : User) → NamesThese named (session_numbers sessions) (numbers channels) (numbers trees) → is_reached state actor named user ≡ is_for state actor sessions channels trees user
reached_alike state actor sessions channels trees named user these =
    all_alike (λ x y z. not (user.session.0 == actor.0) && (x || y || (z && may_text state actor user.channel)))
    (lists named.sessions.numbers.items user.session.0) (lists named.channels.numbers.items user.channel.0)
    (list_any (λ (channel : ChannelId). lists named.trees.numbers.items channel.0) (path state.tree.channels user.channel))
    (is_named sessions user) (is_among channels user.channel) (list_any (λ top. is_below state.tree.channels top user.channel) trees)
    (named_alike named.sessions.numbers.items sessions user these.0)
    (among_alike named.channels.numbers.items channels user.channel these.1)
    (below_alike state.tree.channels named.trees.numbers.items trees user.channel these.2)
