-- A name or a text is refused for the first cause that applies.
use Rattle.mum_part_laws.proofs.Common.{◌≡◌, ◌⊎◌, ℕ, ◌+◌, ◌-◌, ◌<◌, ◌==◌, Bool, false, List, [], ◌∷◌, ◌++◌, refl, sym, ap, ◌∙◌, arith, length, nat_lt, slice_index, list_any, false≢true, ne_eqb, length-append, get_or-append_seam, has_space_at_edge, is_control_byte, ControlCharacter, EdgeSpace, Empty, TooLong, AgainstName, AgainstText, NamesAreRefusedForTheFirst, TextsAreRefusedForLength}
use Rattle.mum_part_laws.proofs.Chains.{Tells, chain_names, tells_any, tells_eq, tells_lt, tells_or}

empty : (name : List ℕ) → Tells (length name == 0) (name ≡ [])
empty [] = record { so = λ _. refl; not_so = λ off _. false≢true (sym off) }
empty (byte ∷ rest) = record { so = λ on. absurd (false≢true (sym (some byte rest) ∙ on)); not_so = λ _ same. cc }
  where
    some : (byte : ℕ) (rest : List ℕ) → (length (byte ∷ rest) == 0) ≡ false
    some byte rest = ne_eqb (length (byte ∷ rest)) 0 (λ (e : length (byte ∷ rest) ≡ 0). absurd (omega (arith, e)))

-- ---- the first byte and the last

last_of : (byte : ℕ) (rest : List ℕ) → (before : List ℕ) × (last : ℕ) × (byte ∷ rest ≡ before ++ last ∷ [])
last_of byte [] = ([], byte, refl)
last_of byte (next ∷ rest) = (let found = last_of next rest in (byte ∷ found.0, found.1, ap (λ (list : List ℕ). byte ∷ list) found.2))

at_last : (before : List ℕ) (last : ℕ) → slice_index (before ++ last ∷ []) (length (before ++ last ∷ []) - 1) ≡ last
at_last before last =
    ap (λ (n : ℕ). slice_index (before ++ last ∷ []) n) (less (length (before ++ last ∷ [])) (length before) (length-append before (last ∷ []) ∙ one before))
    ∙ get_or-append_seam before last [] 0
  where
    less : (n m : ℕ) → n ≡ m + 1 → n - 1 ≡ m
    less n m is = omega (arith, is)

    one : (before : List ℕ) → length before + length (last ∷ []) ≡ length before + 1
    one before = omega arith

starts : (name : List ℕ) → Tells (slice_index name 0 == 32) ((rest : List ℕ) × (name ≡ 32 ∷ rest))
starts [] = record { so = λ on. absurd (false≢true on); not_so = λ _ some. cc }
starts (byte ∷ rest) = step (byte == 32) (tells_eq byte 32)
  where
    first : (byte : ℕ) (rest other : List ℕ) → byte ∷ rest ≡ 32 ∷ other → byte ≡ 32
    first byte rest other is = cc

    step : (b : Bool) → Tells b (byte ≡ 32) → Tells b ((other : List ℕ) × (byte ∷ rest ≡ 32 ∷ other))
    step b tells = record { so = λ on. (rest, ap (λ (n : ℕ). n ∷ rest) (tells.so on)); not_so = λ off some. tells.not_so off (first byte rest some.0 some.1) }

ends : (name : List ℕ) → Tells (slice_index name (length name - 1) == 32) ((rest : List ℕ) × (name ≡ rest ++ 32 ∷ []))
ends [] = record { so = λ on. absurd (false≢true on); not_so = λ _ some. none some.0 (32 ∷ []) (omega arith) (ap (λ (list : List ℕ). length list) some.1) }
  where
    none : (rest tail : List ℕ) → 0 < length tail → 0 ≡ length (rest ++ tail) → ⊥
    none rest tail more is = omega (arith, is, more, length-append rest tail)
ends (byte ∷ rest) =
    let found = last_of byte rest in
    let name : List ℕ = byte ∷ rest in
    let is : slice_index name (length name - 1) ≡ found.1 = ap (λ (list : List ℕ). slice_index list (length list - 1)) found.2 ∙ at_last found.0 found.1 in
    let tells = tells_eq (slice_index name (length name - 1)) 32 in record {
      so = λ on. (found.0, found.2 ∙ ap (λ (n : ℕ). found.0 ++ n ∷ []) (sym is ∙ tells.so on));
      not_so = λ off some. tells.not_so off (ap (λ (list : List ℕ). slice_index list (length list - 1)) some.1 ∙ at_last some.0 32);
    }

-- ---- the laws

pub names_lem : NamesAreRefusedForTheFirst
names_lem name =
    chain_names (AgainstName name)
    ((Empty, length name == 0) ∷ (TooLong, nat_lt 128 (length name)) ∷ (ControlCharacter, list_any is_control_byte name) ∷ (EdgeSpace, has_space_at_edge name) ∷ []) (
      empty name,
      (λ _. (
        tells_lt 128 (length name),
        (λ _. (
          tells_any is_control_byte (λ (byte : ℕ). (byte < 32) ⊎ (byte ≡ 127)) (λ byte. tells_or (nat_lt byte 32) (byte == 127) (tells_lt byte 32) (tells_eq byte 127)) name,
          (λ _. (
            tells_or (slice_index name 0 == 32) (slice_index name (length name - 1) == 32) (starts name) (ends name),
            (λ _. tt),
          )),
        )),
      )),
    )

pub texts_lem : TextsAreRefusedForLength
texts_lem text = chain_names (AgainstText text) ((TooLong, nat_lt 20000 (length text)) ∷ []) (tells_lt 20000 (length text), (λ _. tt))
