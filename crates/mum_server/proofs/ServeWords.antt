-- The words of a command line that ask to serve.
use Rattle.mum_server.proofs.Common.{◌≡◌, ◌↔◌, ◌∙◌, ℕ, ◌^◌, ◌<◌, ◌≤◌, ◌==◌, List, [], ◌∷◌, ◌++◌, length, get_or, codes, refl, sym, ap, arith, IfSome, IsTrue, Bool, true, false, Option, Some, None, take, drop, Bor, decimal_injective, decimal, map, number_within-found, number_within-decimal, number_within, Service, ViewService, ViewAsked, AsksKeep, AsksView, BeginsWithServe, IsDoor, IsPath, IsServe, IsTail, IsView, keep_words, serve_words, tail_words, view_words}

first_is : (word other : List ℕ) (words others : List (List ℕ)) → word ∷ words ≡ other ∷ others → word ≡ other
first_is word other words others same = cc

pub begins : {X : Type 0} (f : X → List ℕ) (xs : List X) (x : X) (is : Bool) → 1 ≤ length xs → x ≡ get_or xs 0 x → (IsTrue is ↔ (f x ≡ codes "serve")) → IsTrue is ↔ BeginsWithServe (map f xs)
begins f [] x is some at so = absurd (omega arith)
begins f (a ∷ more) x is some at so = (
  (λ yes. (map f more, ap (λ (word : List ℕ). word ∷ map f more) (sym (ap f at) ∙ so.0 yes))),
  (λ begun. so.1 (ap f at ∙ first_is (f a) (codes "serve") (map f more) begun.0 begun.1)),
)

-- ---- a door

-- what is not empty is an address
pub named_of : (address : List ℕ) (empty : Bool) → empty ≡ (length address == 0) → empty ≡ false → address ≡ [] → ⊥
named_of [] empty tells never is = let both : true ≡ false = sym tells ∙ never in cc
named_of (byte ∷ bytes) empty tells never is = cc

pub door_is : (name : List ℕ) (limit : ℕ) (word address number : List ℕ) (count : ℕ) → word ≡ name → (address ≡ [] → ⊥) → number_within 1 limit number ≡ Some count → IsDoor name limit word address number count
door_is name limit word address number count is named counted =
    let found = number_within-found 1 limit number count counted in
    record { name_is = is; named = named; number_is = found.2; some = found.0; within = found.1 }

-- a word that is no number from 1 to the limit counts nothing
pub not_counted : (name : List ℕ) (limit : ℕ) (word address number : List ℕ) (count : ℕ) → limit < 2 ^ 32 → number_within 1 limit number ≡ None → IsDoor name limit word address number count → ⊥
not_counted name limit word address number count fits none door =
    let within = door.within in
    let counted : number_within 1 limit number ≡ Some count = ap (number_within 1 limit) door.number_is ∙ number_within-decimal 1 limit count door.some within (omega (arith, fits, within)) in
    let both : None ≡ Some count = sym none ∙ counted in cc

-- ---- words that ask for no door for views

pub map_four : {X : Type 0} (f : X → List ℕ) (xs : List X) (x y z w : X) → 4 ≤ length xs → length xs < 5 → x ≡ get_or xs 0 x → y ≡ get_or xs 1 y → z ≡ get_or xs 2 z → w ≡ get_or xs 3 w
    → map f xs ≡ f x ∷ f y ∷ f z ∷ f w ∷ []
map_four f [] x y z w low high is_x is_y is_z is_w = absurd (omega arith)
map_four f (a ∷ []) x y z w low high is_x is_y is_z is_w = absurd (omega arith)
map_four f (a ∷ b ∷ []) x y z w low high is_x is_y is_z is_w = absurd (omega arith)
map_four f (a ∷ b ∷ c ∷ []) x y z w low high is_x is_y is_z is_w = absurd (omega arith)
map_four f (a ∷ b ∷ c ∷ d ∷ []) x y z w low high is_x is_y is_z is_w = cc
map_four f (a ∷ b ∷ c ∷ d ∷ e ∷ more) x y z w low high is_x is_y is_z is_w = absurd (omega arith)

pub map_two : {X : Type 0} (f : X → List ℕ) (xs : List X) (x y : X) → 2 ≤ length xs → length xs < 3 → x ≡ get_or xs 0 x → y ≡ get_or xs 1 y → map f xs ≡ f x ∷ f y ∷ []
map_two f [] x y low high is_x is_y = absurd (omega arith)
map_two f (a ∷ []) x y low high is_x is_y = absurd (omega arith)
map_two f (a ∷ b ∷ []) x y low high is_x is_y = cc
map_two f (a ∷ b ∷ c ∷ more) x y low high is_x is_y = absurd (omega arith)

pub map_five : {X : Type 0} (f : X → List ℕ) (xs : List X) (x y z w v : X) → 5 ≤ length xs → length xs < 6 → x ≡ get_or xs 0 x → y ≡ get_or xs 1 y → z ≡ get_or xs 2 z → w ≡ get_or xs 3 w → v ≡ get_or xs 4 v
    → map f xs ≡ f x ∷ f y ∷ f z ∷ f w ∷ f v ∷ []
map_five f [] x y z w v low high is_x is_y is_z is_w is_v = absurd (omega arith)
map_five f (a ∷ []) x y z w v low high is_x is_y is_z is_w is_v = absurd (omega arith)
map_five f (a ∷ b ∷ []) x y z w v low high is_x is_y is_z is_w is_v = absurd (omega arith)
map_five f (a ∷ b ∷ c ∷ []) x y z w v low high is_x is_y is_z is_w is_v = absurd (omega arith)
map_five f (a ∷ b ∷ c ∷ d ∷ []) x y z w v low high is_x is_y is_z is_w is_v = absurd (omega arith)
map_five f (a ∷ b ∷ c ∷ d ∷ e ∷ []) x y z w v low high is_x is_y is_z is_w is_v = cc
map_five f (a ∷ b ∷ c ∷ d ∷ e ∷ g ∷ more) x y z w v low high is_x is_y is_z is_w is_v = absurd (omega arith)

pub no_view : (word one address two number three : List ℕ) (asked : Option ViewAsked) → word ≡ one → address ≡ two → number ≡ three → asked ≡ None → AsksView (word ∷ address ∷ number ∷ []) asked
    → (view : ViewService) → one ∷ two ∷ three ∷ [] ≡ view_words (Some view) → IsView view → ⊥
no_view word one address two number three None is_one is_two is_three none asks = λ view same fits. asks view (rw (is_one, is_two, is_three) same) fits
no_view word one address two number three (Some found) is_one is_two is_three none asks = λ view same fits. absurd (cc)

pub head_is : (one other : List ℕ) (words others : List (List ℕ)) → one ∷ words ≡ other ∷ others → one ≡ other
head_is one other words others same = cc

behind : (one other : List ℕ) (words others : List (List ℕ)) → one ∷ words ≡ other ∷ others → words ≡ others
behind one other words others same = cc

-- words that ask for no path at which channels are kept
pub no_path : (word one path two : List ℕ) (asked : Option (Bor (List ℕ))) → word ≡ one → path ≡ two → asked ≡ None → AsksKeep (word ∷ path ∷ []) asked
    → (kept : List ℕ) → one ∷ two ∷ [] ≡ keep_words (Some kept) → IsPath kept → ⊥
no_path word one path two None is_one is_two none asks = λ kept same fits. asks kept (rw (is_one, is_two) same) fits
no_path word one path two (Some found) is_one is_two none asks = λ kept same fits. absurd (cc)

pub not_keep : (word path : List ℕ) → (word ≡ codes "keep" → ⊥) → (kept : List ℕ) → word ∷ path ∷ [] ≡ keep_words (Some kept) → IsPath kept → ⊥
not_keep word path never kept same fits = never (head_is word (codes "keep") (path ∷ []) (kept ∷ []) same)

pub no_name : (word path : List ℕ) → path ≡ [] → (kept : List ℕ) → word ∷ path ∷ [] ≡ keep_words (Some kept) → IsPath kept → ⊥
no_name word path empty kept same fits = fits (sym (head_is path kept [] [] (behind word (codes "keep") (path ∷ []) (kept ∷ []) same)) ∙ empty)

-- ---- words that are no tail, by their number

-- they ask for nothing that may follow the number of connections
abbrev pub IsNoTail : List (List ℕ) → Type 0
IsNoTail words = (journal : Bool) (view : Option ViewService) (keep : Option (List ℕ)) → IsTail words journal view keep → ⊥

-- a journal and kept channels are not asked for at once
not_at_once : (path : List ℕ) → (true ≡ true → Some path ≡ None) → ⊥
not_at_once path apart = let no = apart refl in cc

pub no_one : (words : List (List ℕ)) (one : List ℕ) → words ≡ one ∷ [] → (one ≡ codes "journal" → ⊥) → IsNoTail words
no_one words one are never true None None tail = never (head_is one (codes "journal") [] [] (sym are ∙ tail.words_are))
no_one words one are never true None (Some path) tail = not_at_once path tail.apart
no_one words one are never true (Some view) None tail = let same : one ∷ [] ≡ tail_words true (Some view) None = sym are ∙ tail.words_are in absurd (cc same)
no_one words one are never true (Some view) (Some path) tail = not_at_once path tail.apart
no_one words one are never false None None tail = let same : one ∷ [] ≡ tail_words false None None = sym are ∙ tail.words_are in absurd (cc same)
no_one words one are never false None (Some path) tail = let same : one ∷ [] ≡ tail_words false None (Some path) = sym are ∙ tail.words_are in absurd (cc same)
no_one words one are never false (Some view) None tail = let same : one ∷ [] ≡ tail_words false (Some view) None = sym are ∙ tail.words_are in absurd (cc same)
no_one words one are never false (Some view) (Some path) tail = let same : one ∷ [] ≡ tail_words false (Some view) (Some path) = sym are ∙ tail.words_are in absurd (cc same)

pub no_two : (words : List (List ℕ)) (one two : List ℕ) → words ≡ one ∷ two ∷ [] → ((path : List ℕ) → one ∷ two ∷ [] ≡ keep_words (Some path) → IsPath path → ⊥) → IsNoTail words
no_two words one two are never true None None tail = let same : one ∷ two ∷ [] ≡ tail_words true None None = sym are ∙ tail.words_are in absurd (cc same)
no_two words one two are never true None (Some path) tail = not_at_once path tail.apart
no_two words one two are never true (Some view) None tail = let same : one ∷ two ∷ [] ≡ tail_words true (Some view) None = sym are ∙ tail.words_are in absurd (cc same)
no_two words one two are never true (Some view) (Some path) tail = not_at_once path tail.apart
no_two words one two are never false None None tail = let same : one ∷ two ∷ [] ≡ tail_words false None None = sym are ∙ tail.words_are in absurd (cc same)
no_two words one two are never false None (Some path) tail = never path (sym are ∙ tail.words_are) tail.path
no_two words one two are never false (Some view) None tail = let same : one ∷ two ∷ [] ≡ tail_words false (Some view) None = sym are ∙ tail.words_are in absurd (cc same)
no_two words one two are never false (Some view) (Some path) tail = let same : one ∷ two ∷ [] ≡ tail_words false (Some view) (Some path) = sym are ∙ tail.words_are in absurd (cc same)

pub no_three : (words : List (List ℕ)) (one two three : List ℕ) → words ≡ one ∷ two ∷ three ∷ [] → ((view : ViewService) → one ∷ two ∷ three ∷ [] ≡ view_words (Some view) → IsView view → ⊥) → IsNoTail words
no_three words one two three are never true None None tail = let same : one ∷ two ∷ three ∷ [] ≡ tail_words true None None = sym are ∙ tail.words_are in absurd (cc same)
no_three words one two three are never true None (Some path) tail = not_at_once path tail.apart
no_three words one two three are never true (Some view) None tail = let same : one ∷ two ∷ three ∷ [] ≡ tail_words true (Some view) None = sym are ∙ tail.words_are in absurd (cc same)
no_three words one two three are never true (Some view) (Some path) tail = not_at_once path tail.apart
no_three words one two three are never false None None tail = let same : one ∷ two ∷ three ∷ [] ≡ tail_words false None None = sym are ∙ tail.words_are in absurd (cc same)
no_three words one two three are never false None (Some path) tail = let same : one ∷ two ∷ three ∷ [] ≡ tail_words false None (Some path) = sym are ∙ tail.words_are in absurd (cc same)
no_three words one two three are never false (Some view) None tail = never view (sym are ∙ tail.words_are) tail.views
no_three words one two three are never false (Some view) (Some path) tail = let same : one ∷ two ∷ three ∷ [] ≡ tail_words false (Some view) (Some path) = sym are ∙ tail.words_are in absurd (cc same)

pub no_four : (words : List (List ℕ)) (one two three four : List ℕ) → words ≡ one ∷ two ∷ three ∷ four ∷ [] → (one ≡ codes "journal" → (view : ViewService) → two ∷ three ∷ four ∷ [] ≡ view_words (Some view) → IsView view → ⊥) → IsNoTail words
no_four words one two three four are never true None None tail = let same : one ∷ two ∷ three ∷ four ∷ [] ≡ tail_words true None None = sym are ∙ tail.words_are in absurd (cc same)
no_four words one two three four are never true None (Some path) tail = not_at_once path tail.apart
no_four words one two three four are never true (Some view) None tail = never (head_is one (codes "journal") (two ∷ three ∷ four ∷ []) (view_words (Some view)) (sym are ∙ tail.words_are)) view (behind one (codes "journal") (two ∷ three ∷ four ∷ []) (view_words (Some view)) (sym are ∙ tail.words_are)) tail.views
no_four words one two three four are never true (Some view) (Some path) tail = not_at_once path tail.apart
no_four words one two three four are never false None None tail = let same : one ∷ two ∷ three ∷ four ∷ [] ≡ tail_words false None None = sym are ∙ tail.words_are in absurd (cc same)
no_four words one two three four are never false None (Some path) tail = let same : one ∷ two ∷ three ∷ four ∷ [] ≡ tail_words false None (Some path) = sym are ∙ tail.words_are in absurd (cc same)
no_four words one two three four are never false (Some view) None tail = let same : one ∷ two ∷ three ∷ four ∷ [] ≡ tail_words false (Some view) None = sym are ∙ tail.words_are in absurd (cc same)
no_four words one two three four are never false (Some view) (Some path) tail = let same : one ∷ two ∷ three ∷ four ∷ [] ≡ tail_words false (Some view) (Some path) = sym are ∙ tail.words_are in absurd (cc same)

front_three : (one two three other second third : List ℕ) (words others : List (List ℕ)) → one ∷ two ∷ three ∷ words ≡ other ∷ second ∷ third ∷ others → one ∷ two ∷ three ∷ [] ≡ other ∷ second ∷ third ∷ []
front_three one two three other second third words others same = ap (λ (ws : List (List ℕ)). take 3 ws) same

rest_three : (one two three other second third : List ℕ) (words others : List (List ℕ)) → one ∷ two ∷ three ∷ words ≡ other ∷ second ∷ third ∷ others → words ≡ others
rest_three one two three other second third words others same = ap (λ (ws : List (List ℕ)). drop 3 ws) same

pub no_five : (words : List (List ℕ)) (one two three four five : List ℕ) → words ≡ one ∷ two ∷ three ∷ four ∷ five ∷ [] → ((view : ViewService) (path : List ℕ) → one ∷ two ∷ three ∷ [] ≡ view_words (Some view) → four ∷ five ∷ [] ≡ keep_words (Some path) → IsView view → IsPath path → ⊥) → IsNoTail words
no_five words one two three four five are never true None None tail = let same : one ∷ two ∷ three ∷ four ∷ five ∷ [] ≡ tail_words true None None = sym are ∙ tail.words_are in absurd (cc same)
no_five words one two three four five are never true None (Some path) tail = not_at_once path tail.apart
no_five words one two three four five are never true (Some view) None tail = let same : one ∷ two ∷ three ∷ four ∷ five ∷ [] ≡ tail_words true (Some view) None = sym are ∙ tail.words_are in absurd (cc same)
no_five words one two three four five are never true (Some view) (Some path) tail = not_at_once path tail.apart
no_five words one two three four five are never false None None tail = let same : one ∷ two ∷ three ∷ four ∷ five ∷ [] ≡ tail_words false None None = sym are ∙ tail.words_are in absurd (cc same)
no_five words one two three four five are never false None (Some path) tail = let same : one ∷ two ∷ three ∷ four ∷ five ∷ [] ≡ tail_words false None (Some path) = sym are ∙ tail.words_are in absurd (cc same)
no_five words one two three four five are never false (Some view) None tail = let same : one ∷ two ∷ three ∷ four ∷ five ∷ [] ≡ tail_words false (Some view) None = sym are ∙ tail.words_are in absurd (cc same)
no_five words one two three four five are never false (Some view) (Some path) tail = never view path (front_three one two three (codes "view") view.address (decimal view.views) (four ∷ five ∷ []) (keep_words (Some path)) (sym are ∙ tail.words_are)) (rest_three one two three (codes "view") view.address (decimal view.views) (four ∷ five ∷ []) (keep_words (Some path)) (sym are ∙ tail.words_are)) tail.views tail.path

-- more than five words are none
pub no_more : (words : List (List ℕ)) → 6 ≤ length words → IsNoTail words
no_more words many true None None tail = let long = ap (λ (ws : List (List ℕ)). length ws) tail.words_are in omega (arith, long, many)
no_more words many true (Some view) None tail = let long = ap (λ (ws : List (List ℕ)). length ws) tail.words_are in omega (arith, long, many)
no_more words many true view (Some path) tail = not_at_once path tail.apart
no_more words many false None None tail = let long = ap (λ (ws : List (List ℕ)). length ws) tail.words_are in omega (arith, long, many)
no_more words many false None (Some path) tail = let long = ap (λ (ws : List (List ℕ)). length ws) tail.words_are in omega (arith, long, many)
no_more words many false (Some view) None tail = let long = ap (λ (ws : List (List ℕ)). length ws) tail.words_are in omega (arith, long, many)
no_more words many false (Some view) (Some path) tail = let long = ap (λ (ws : List (List ℕ)). length ws) tail.words_are in omega (arith, long, many)

-- ---- what words ask for is asked for once

second_is : (name one other number second : List ℕ) (rest others : List (List ℕ)) → name ∷ one ∷ number ∷ rest ≡ name ∷ other ∷ second ∷ others → one ≡ other
second_is name one other number second rest others same = cc

third_is : (name one other number second : List ℕ) (rest others : List (List ℕ)) → name ∷ one ∷ number ∷ rest ≡ name ∷ other ∷ second ∷ others → number ≡ second
third_is name one other number second rest others same = cc

rest_is : (name one other number second : List ℕ) (rest others : List (List ℕ)) → name ∷ one ∷ number ∷ rest ≡ name ∷ other ∷ second ∷ others → rest ≡ others
rest_is name one other number second rest others same = cc

abbrev views_of : List ℕ → ℕ → ViewService
views_of address views = record { address = address; views = views }

views_alike : (one other : ViewService) → one.address ≡ other.address → one.views ≡ other.views → one ≡ other
views_alike one other addresses numbers = ap (λ (address : List ℕ). views_of address one.views) addresses ∙ ap (λ (views : ℕ). views_of other.address views) numbers

view_once : (one other : ViewService) (rest others : List (List ℕ)) → IsView one → IsView other → codes "view" ∷ one.address ∷ decimal one.views ∷ rest ≡ codes "view" ∷ other.address ∷ decimal other.views ∷ others → one ≡ other
view_once one other rest others first second same =
    let few = first.within in
    let no_more_views = second.within in
    let addresses = second_is (codes "view") one.address other.address (decimal one.views) (decimal other.views) rest others same in
    let numbers = third_is (codes "view") one.address other.address (decimal one.views) (decimal other.views) rest others same in
    views_alike one other addresses (decimal_injective one.views other.views (omega (arith, few)) (omega (arith, no_more_views)) numbers)

keep_once : (one other : Option (List ℕ)) → keep_words one ≡ keep_words other → one ≡ other
keep_once None None same = refl
keep_once None (Some other) same = absurd (cc same)
keep_once (Some one) None same = absurd (cc same)
keep_once (Some one) (Some other) same = ap (λ (path : List ℕ). Some path) (head_is one other [] [] (behind (codes "keep") (codes "keep") (one ∷ []) (other ∷ []) same))

-- kept channels are asked for by two words, and a door for views by three
not_either : (path : Option (List ℕ)) (view : ViewService) (rest : List (List ℕ)) → keep_words path ≡ view_words (Some view) ++ rest → ⊥
not_either None view rest same = absurd (cc same)
not_either (Some path) view rest same = absurd (cc same)

views_once : (one other : Option ViewService) (path kept : Option (List ℕ)) → IfSome one IsView → IfSome other IsView → view_words one ++ keep_words path ≡ view_words other ++ keep_words kept → (one ≡ other) × (path ≡ kept)
views_once None None path kept first second same = (refl, keep_once path kept same)
views_once None (Some other) path kept first second same = absurd (not_either path other (keep_words kept) same)
views_once (Some one) None path kept first second same = absurd (not_either kept one (keep_words path) (sym same))
views_once (Some one) (Some other) path kept first second same = (
  ap (λ (view : ViewService). Some view) (view_once one other (keep_words path) (keep_words kept) first second same),
  keep_once path kept (rest_is (codes "view") one.address other.address (decimal one.views) (decimal other.views) (keep_words path) (keep_words kept) same),
)

-- a journal is asked for by one word more
not_both : (words : List (List ℕ)) (other : Option ViewService) (kept : Option (List ℕ)) → codes "journal" ∷ words ≡ view_words other ++ keep_words kept → ⊥
not_both words None None same = absurd (cc same)
not_both words None (Some kept) same = absurd (cc same)
not_both words (Some other) kept same = absurd (cc same)

tail_once : (journal noted : Bool) (one other : Option ViewService) (path kept : Option (List ℕ)) → IfSome one IsView → IfSome other IsView → tail_words journal one path ≡ tail_words noted other kept
    → (journal ≡ noted) × (one ≡ other) × (path ≡ kept)
tail_once true true one other path kept first second same =
    let rest = views_once one other path kept first second (behind (codes "journal") (codes "journal") (view_words one ++ keep_words path) (view_words other ++ keep_words kept) same) in
    (refl, rest.0, rest.1)
tail_once false false one other path kept first second same = let rest = views_once one other path kept first second same in (refl, rest.0, rest.1)
tail_once true false one other path kept first second same = absurd (not_both (view_words one ++ keep_words path) other kept same)
tail_once false true one other path kept first second same = absurd (not_both (view_words other ++ keep_words kept) one path (sym same))

abbrev service_of : List ℕ → ℕ → Bool → Option ViewService → Option (List ℕ) → Service
service_of address connections journal view keep = record { address = address; connections = connections; journal = journal; view = view; keep = keep }

services_alike : (one other : Service) → one.address ≡ other.address → one.connections ≡ other.connections → one.journal ≡ other.journal → one.view ≡ other.view → one.keep ≡ other.keep → one ≡ other
services_alike one other addresses numbers journals views keeps =
    ap (λ (address : List ℕ). service_of address one.connections one.journal one.view one.keep) addresses
    ∙ ap (λ (connections : ℕ). service_of other.address connections one.journal one.view one.keep) numbers
    ∙ ap (λ (journal : Bool). service_of other.address other.connections journal one.view one.keep) journals
    ∙ ap (λ (view : Option ViewService). service_of other.address other.connections other.journal view one.keep) views
    ∙ ap (λ (keep : Option (List ℕ)). service_of other.address other.connections other.journal other.view keep) keeps

pub asked_once : (words : List (List ℕ)) (one other : Service) → IsServe words one → IsServe words other → one ≡ other
asked_once words one other first second =
    let same : serve_words one ≡ serve_words other = sym first.words_are ∙ second.words_are in
    let few = first.within in
    let no_more_words = second.within in
    let behind_one : List (List ℕ) = tail_words one.journal one.view one.keep in
    let behind_other : List (List ℕ) = tail_words other.journal other.view other.keep in
    let tails = tail_once one.journal other.journal one.view other.view one.keep other.keep first.view second.view
    (rest_is (codes "serve") one.address other.address (decimal one.connections) (decimal other.connections) behind_one behind_other same) in
    services_alike one other
    (second_is (codes "serve") one.address other.address (decimal one.connections) (decimal other.connections) behind_one behind_other same)
    (decimal_injective one.connections other.connections (omega (arith, few)) (omega (arith, no_more_words))
    (third_is (codes "serve") one.address other.address (decimal one.connections) (decimal other.connections) behind_one behind_other same))
    tails.0 tails.1 tails.2
