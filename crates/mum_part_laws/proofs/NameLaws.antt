-- What the prefixes of a group name mean, and the names that the Murmur manual defines.
use Rattle.mum_part_laws.proofs.Common.{◌≡◌, ℕ, suc, ◌+◌, ◌-◌, ◌<◌, ◌==◌, ◌||◌, not, Bool, true, false, cond, List, [], ◌∷◌, ◌++◌, reverse, take, inl, inr, refl, sym, ap, subst, ◌∙◌, arith, length, All, list_any, str_eq_ignore_ascii_case, ne_eqb, length-append, reverse-append, take-length, ChannelId, Actor, PolicyMap, has_token, is_in, meets, member, member_by, upwards, Understood, asked_by, is_built_in_without_members, meaning, understood, understood_after, BeginsOtherwise, IsPrefix, NamesAreKnown, PrefixesAreRead, TokensAreWords, at_acl_if, negated_if}
use Rattle.mum_part_laws.proofs.Chains.{Tells, tells_any, tells_same}

skip : {X : Type 0} (b : Bool) (x y : X) → b ≡ false → cond b x y ≡ y
skip b x y off = ap (λ (t : Bool). cond t x y) off

-- ---- prefixes

abbrev read_as : Bool → Bool → List ℕ → Understood
read_as negates at_acl word = record { negated = negates; at_acl = at_acl; asks = asked_by word }

word_read : (negates at_acl : Bool) (word : List ℕ) → BeginsOtherwise word → understood_after negates at_acl word ≡ read_as negates at_acl word
unfolding understood_after
word_read negates at_acl [] other = refl
word_read negates at_acl (byte ∷ rest) other =
    skip (byte == 33) _ _ (ne_eqb byte 33 (λ is. other (inl is))) ∙ skip (byte == 126) _ _ (ne_eqb byte 126 (λ is. other (inr is)))

or_true : (a b : Bool) → (true || b) ≡ (a || (true || b))
or_true true b = refl
or_true false b = refl

prefixes_read : (negates at_acl : Bool) (prefixes word : List ℕ) → All IsPrefix prefixes → BeginsOtherwise word
    → understood_after negates at_acl (prefixes ++ word) ≡ read_as (negates || list_any (λ byte. byte == 33) prefixes) (at_acl || list_any (λ byte. byte == 126) prefixes) word
unfolding understood_after
prefixes_read negates at_acl [] word all other =
    word_read negates at_acl word other ∙ ap (λ (b : Bool). read_as b at_acl word) (last negates) ∙ ap (λ (b : Bool). read_as (negates || false) b word) (last at_acl)
  where
    last : (b : Bool) → b ≡ (b || false)
    last true = refl
    last false = refl
prefixes_read negates at_acl (byte ∷ prefixes) word all other =
    elim (all 0 byte (omega arith)) as (λ _. understood_after negates at_acl (byte ∷ (prefixes ++ word))
    ≡ read_as (negates || ((byte == 33) || list_any (λ one. one == 33) prefixes)) (at_acl || ((byte == 126) || list_any (λ one. one == 126) prefixes)) word) [
      | inl is ↦ subst (λ (n : ℕ). understood_after negates at_acl (n ∷ (prefixes ++ word))
          ≡ read_as (negates || ((n == 33) || list_any (λ one. one == 33) prefixes)) (at_acl || ((n == 126) || list_any (λ one. one == 126) prefixes)) word) (sym is)
          (prefixes_read true at_acl prefixes word (λ k d within. all (suc k) d (omega arith)) other
          ∙ ap (λ (b : Bool). read_as b (at_acl || list_any (λ one. one == 126) prefixes) word) (or_true negates (list_any (λ one. one == 33) prefixes)))
      | inr is ↦ subst (λ (n : ℕ). understood_after negates at_acl (n ∷ (prefixes ++ word))
          ≡ read_as (negates || ((n == 33) || list_any (λ one. one == 33) prefixes)) (at_acl || ((n == 126) || list_any (λ one. one == 126) prefixes)) word) (sym is)
          (prefixes_read negates true prefixes word (λ k d within. all (suc k) d (omega arith)) other
          ∙ ap (λ (b : Bool). read_as (negates || list_any (λ one. one == 33) prefixes) b word) (or_true at_acl (list_any (λ one. one == 126) prefixes)))
    ]

at_acl_read : (has : Bool) (word : List ℕ) → BeginsOtherwise word → understood (at_acl_if has word) ≡ read_as false has word
unfolding understood_after
at_acl_read true word other = word_read false true word other
at_acl_read false word other = word_read false false word other

negated_by : (policies : PolicyMap) (path : List ChannelId) (acl_at : ℕ) (who : Actor) (negates has : Bool) (word : List ℕ)
    → member_by policies (record { path = path; acl_at = acl_at }) who (read_as negates has word)
    ≡ negated_if negates (member_by policies (record { path = path; acl_at = acl_at }) who (read_as false has word))
negated_by policies path acl_at who true has word = refl
negated_by policies path acl_at who false has word = refl

pub prefixes_are_read_lem : PrefixesAreRead
unfolding member
prefixes_are_read_lem policies path acl_at who prefixes word all other =
    let negates : Bool = list_any (λ byte. byte == 33) prefixes in
    let has : Bool = list_any (λ byte. byte == 126) prefixes in
    ap (λ (name : Understood). member_by policies (record { path = path; acl_at = acl_at }) who name) (prefixes_read false false prefixes word all other)
    ∙ negated_by policies path acl_at who negates has word
    ∙ ap (λ (name : Understood). negated_if negates (member_by policies (record { path = path; acl_at = acl_at }) who name)) (sym (at_acl_read has word other))

-- ---- names of the manual

both : {Fact : Type 0} (b : Bool) → Tells b Fact → (b ≡ true → Fact) × (Fact → b ≡ true)
both true tells = ((λ on. tells.so on), (λ fact. refl))
both false tells = ((λ on. tells.so on), (λ fact. absurd (tells.not_so refl fact)))

pub tokens_are_words_lem : TokensAreWords
unfolding member understood_after asked_by meets has_token
tokens_are_words_lem policies path acl_at who word =
    both (list_any (λ token. str_eq_ignore_ascii_case token word) who.tokens)
    (tells_any (λ (token : List ℕ). str_eq_ignore_ascii_case token word) (λ (token : List ℕ). str_eq_ignore_ascii_case token word ≡ true) (λ token. tells_same (str_eq_ignore_ascii_case token word)) who.tokens)

last_first : (above : List ChannelId) (channel : ChannelId) → upwards (above ++ channel ∷ []) (length (above ++ channel ∷ []) - 1) ≡ channel ∷ reverse above
last_first above channel =
    ap (λ (n : ℕ). reverse (take n (above ++ channel ∷ []))) (whole (length (above ++ channel ∷ [])) (omega (arith, length-append above (channel ∷ []))))
    ∙ ap (λ (list : List ChannelId). reverse list) (take-length (above ++ channel ∷ []))
    ∙ reverse-append above (channel ∷ [])
  where
    whole : (n : ℕ) → 0 < n → n - 1 + 1 ≡ n
    whole n some = omega arith

pub names_are_known_lem : NamesAreKnown
unfolding member understood_after asked_by meaning is_built_in_without_members meets is_in
names_are_known_lem policies above channel acl_at who = record {
  all = refl;
  auth = refl;
  none = refl;
  strong = refl;
  empty = refl;
  dollar = λ rest. refl;
  inside = ap (λ (ids : List ChannelId). is_in who ids) (last_first above channel);
  outside = ap (λ (ids : List ChannelId). not (is_in who ids)) (last_first above channel);
}
