-- Words that ask to serve, worked by hand: what they ask for, and words that ask for nothing.
use Rattle.mum_server.proofs.Common.{◌≡◌, ℕ, Bool, true, false, List, [], ◌∷◌, Option, Some, None, codes, get_or, ap, sym, refl, arith, digits, decimal, number_within, words_in, Service, ViewService, IsPath, IsServe, IsView, keep_words, later_roles, serve_words, tail_words, view_words, VIEWS_LIMIT}
use Rattle.mum_server.proofs.ServeWords.{IsNoTail, head_is, no_five, no_four, no_more, no_name, no_one, no_three, no_two, not_counted, not_keep}

abbrev serves : List ℕ → ℕ → Bool → Option ViewService → Service
serves address connections journal view = record { address = address; connections = connections; journal = journal; view = view; keep = None }

abbrev keeps : List ℕ → ℕ → Option ViewService → List ℕ → Service
keeps address connections view path = record { address = address; connections = connections; journal = false; view = view; keep = Some path }

abbrev shows : List ℕ → ℕ → Option ViewService
shows address views = Some (record { address = address; views = views })

pub record AreRead : Type 0 where
  pub a_door : serve_words (serves (codes "127.0.0.1:64738") 10 false None) ≡ words_in (codes "serve 127.0.0.1:64738 10")
  pub a_journal : serve_words (serves (codes "127.0.0.1:64738") 10 true None) ≡ words_in (codes "serve 127.0.0.1:64738 10 journal")
  pub views : serve_words (serves (codes "127.0.0.1:64738") 10 false (shows (codes "unix:view") 1000000)) ≡ words_in (codes "serve 127.0.0.1:64738 10 view unix:view 1000000")
  pub both : serve_words (serves (codes "127.0.0.1:64738") 1000000 true (shows (codes "unix:view") 1)) ≡ words_in (codes "serve 127.0.0.1:64738 1000000 journal view unix:view 1")
  pub views_at_an_address_of_that_name : serve_words (serves (codes "a") 1 false (shows (codes "view") 1)) ≡ words_in (codes "serve a 1 view view 1")
  pub addresses_of_the_names_of_others : serve_words (serves (codes "view") 1 true (shows (codes "journal") 5)) ≡ words_in (codes "serve view 1 journal view journal 5")
  pub kept_channels : serve_words (keeps (codes "127.0.0.1:64738") 10 None (codes "rooms.db")) ≡ words_in (codes "serve 127.0.0.1:64738 10 keep rooms.db")
  pub views_and_kept_channels : serve_words (keeps (codes "a") 1 (shows (codes "unix:view") 5) (codes "rooms.db")) ≡ words_in (codes "serve a 1 view unix:view 5 keep rooms.db")
  pub a_path_of_that_name : serve_words (keeps (codes "keep") 1 None (codes "keep")) ≡ words_in (codes "serve keep 1 keep keep")
  pub views_kept_at_the_names_of_others : serve_words (keeps (codes "a") 1 (shows (codes "keep") 5) (codes "journal")) ≡ words_in (codes "serve a 1 view keep 5 keep journal")
  pub no_later_role : later_roles (serves (codes "a") 1 true None) ≡ 0
  pub a_later_role : later_roles (serves (codes "a") 1 true (shows (codes "b") 7)) ≡ 1
  pub a_later_role_of_kept_channels : later_roles (keeps (codes "a") 1 None (codes "b")) ≡ 1
  pub both_later_roles : later_roles (keeps (codes "a") 1 (shows (codes "b") 7) (codes "c")) ≡ 2

pub are_read : AreRead
unfolding digits
are_read = record {
  a_door = refl;
  a_journal = refl;
  views = refl;
  both = refl;
  views_at_an_address_of_that_name = refl;
  addresses_of_the_names_of_others = refl;
  kept_channels = refl;
  views_and_kept_channels = refl;
  a_path_of_that_name = refl;
  views_kept_at_the_names_of_others = refl;
  no_later_role = refl;
  a_later_role = refl;
  a_later_role_of_kept_channels = refl;
  both_later_roles = refl;
}

-- the words ask for no run that serves
abbrev IsNone : List (List ℕ) → Type 0
IsNone words = (asked : Service) → IsServe words asked → ⊥

same_tail : (address number asked counted : List ℕ) (tail words : List (List ℕ)) → codes "serve" ∷ address ∷ number ∷ tail ≡ codes "serve" ∷ asked ∷ counted ∷ words → tail ≡ words
same_tail address number asked counted tail words same = cc

-- nor do words that begin with `serve`, an address and a number, where what follows is no such tail
none_behind : (address number : List ℕ) (tail : List (List ℕ)) → IsNoTail tail → IsNone (codes "serve" ∷ address ∷ number ∷ tail)
none_behind address number tail never asked asks =
    let same = asks.words_are in
    never asked.journal asked.view asked.keep (record {
      words_are = same_tail address number asked.address (decimal asked.connections) tail (tail_words asked.journal asked.view asked.keep) same;
      views = asks.view;
      path = asks.keep;
      apart = asks.apart;
    })

-- a number that is none from 1 to the limit
no_views : (address number : List ℕ) → number_within 1 VIEWS_LIMIT number ≡ None → (view : ViewService) → codes "view" ∷ address ∷ number ∷ [] ≡ view_words (Some view) → IsView view → ⊥
no_views address number none view same fits =
    let is : number ≡ decimal view.views = cc in
    not_counted (codes "view") VIEWS_LIMIT (codes "view") view.address number view.views (omega arith) none (record { name_is = refl; named = fits.named; number_is = is; some = fits.some; within = fits.within })

-- an empty address
no_place : (number : List ℕ) (view : ViewService) → codes "view" ∷ [] ∷ number ∷ [] ≡ view_words (Some view) → IsView view → ⊥
no_place number view same fits = fits.named (cc)

view_is_not_keep : codes "view" ≡ codes "keep" → ⊥
view_is_not_keep same = let first : 118 ≡ 107 = ap (λ (word : List ℕ). get_or word 0 0) same in omega (arith, first)

-- an empty path
no_file : (path : List ℕ) → codes "keep" ∷ [] ∷ [] ≡ keep_words (Some path) → IsPath path → ⊥
no_file path same fits = no_name (codes "keep") [] refl path same fits

three : (one two last : List ℕ) → ((view : ViewService) → one ∷ two ∷ last ∷ [] ≡ view_words (Some view) → IsView view → ⊥) → IsNone (codes "serve" ∷ codes "a" ∷ codes "1" ∷ one ∷ two ∷ last ∷ [])
three one two last never = none_behind (codes "a") (codes "1") (one ∷ two ∷ last ∷ []) (no_three (one ∷ two ∷ last ∷ []) one two last refl never)

-- three words that begin with another than `view`
other_three : (one two last : List ℕ) → (one ≡ codes "view" → ⊥) → IsNone (codes "serve" ∷ codes "a" ∷ codes "1" ∷ one ∷ two ∷ last ∷ [])
other_three one two last other = three one two last (λ view same fits. other (cc))

two : (one last : List ℕ) → ((path : List ℕ) → one ∷ last ∷ [] ≡ keep_words (Some path) → IsPath path → ⊥) → IsNone (codes "serve" ∷ codes "a" ∷ codes "1" ∷ one ∷ last ∷ [])
two one last never = none_behind (codes "a") (codes "1") (one ∷ last ∷ []) (no_two (one ∷ last ∷ []) one last refl never)

pub record AreNone : Type 0 where
  pub a_journal_behind_the_views : IsNone (words_in (codes "serve a 1 view b 5 journal"))
  pub no_number_of_views : IsNone (words_in (codes "serve a 1 view b"))
  pub no_view_at_all : IsNone (words_in (codes "serve a 1 view b 0"))
  pub too_many_views : IsNone (words_in (codes "serve a 1 view b 1000001"))
  pub a_leading_zero : IsNone (words_in (codes "serve a 1 view b 05"))
  pub views_at_no_address : IsNone (words_in (codes "serve a 1 view  5"))
  pub no_path : IsNone (words_in (codes "serve a 1 keep"))
  pub an_empty_path : IsNone (words_in (codes "serve a 1 keep "))
  pub a_journal_and_kept_channels : IsNone (words_in (codes "serve a 1 journal keep b"))
  pub kept_channels_before_a_journal : IsNone (words_in (codes "serve a 1 keep b journal"))
  pub kept_channels_before_the_views : IsNone (words_in (codes "serve a 1 keep b view c 5"))
  pub all_of_them : IsNone (words_in (codes "serve a 1 journal view b 5 keep c"))

pub are_none : AreNone
unfolding digits number_within
are_none = record {
  a_journal_behind_the_views =
      none_behind (codes "a") (codes "1") (codes "view" ∷ codes "b" ∷ codes "5" ∷ codes "journal" ∷ [])
      (no_four (codes "view" ∷ codes "b" ∷ codes "5" ∷ codes "journal" ∷ []) (codes "view") (codes "b") (codes "5") (codes "journal") refl (λ same. absurd (cc)));
  no_number_of_views = two (codes "view") (codes "b") (not_keep (codes "view") (codes "b") view_is_not_keep);
  no_view_at_all = three (codes "view") (codes "b") (codes "0") (no_views (codes "b") (codes "0") refl);
  too_many_views = three (codes "view") (codes "b") (codes "1000001") (no_views (codes "b") (codes "1000001") refl);
  a_leading_zero = three (codes "view") (codes "b") (codes "05") (no_views (codes "b") (codes "05") refl);
  views_at_no_address = three (codes "view") [] (codes "5") (no_place (codes "5"));
  no_path = none_behind (codes "a") (codes "1") (codes "keep" ∷ []) (no_one (codes "keep" ∷ []) (codes "keep") refl (λ same. cc));
  an_empty_path = two (codes "keep") [] no_file;
  a_journal_and_kept_channels = other_three (codes "journal") (codes "keep") (codes "b") (λ same. cc);
  kept_channels_before_a_journal = other_three (codes "keep") (codes "b") (codes "journal") (λ same. view_is_not_keep (sym same));
  kept_channels_before_the_views =
      none_behind (codes "a") (codes "1") (codes "keep" ∷ codes "b" ∷ codes "view" ∷ codes "c" ∷ codes "5" ∷ [])
      (no_five (codes "keep" ∷ codes "b" ∷ codes "view" ∷ codes "c" ∷ codes "5" ∷ []) (codes "keep") (codes "b") (codes "view") (codes "c") (codes "5") refl
      (λ view path same kept fits named. view_is_not_keep (sym (head_is (codes "keep") (codes "view") (codes "b" ∷ codes "view" ∷ []) (view.address ∷ decimal view.views ∷ []) same))));
  all_of_them =
      none_behind (codes "a") (codes "1") (codes "journal" ∷ codes "view" ∷ codes "b" ∷ codes "5" ∷ codes "keep" ∷ codes "c" ∷ [])
      (no_more (codes "journal" ∷ codes "view" ∷ codes "b" ∷ codes "5" ∷ codes "keep" ∷ codes "c" ∷ []) (omega arith));
}
