-- What a read from a link in memory leaves of the bytes.
use Rattle.mum_io.proofs.Common.{◌≡◌, ℕ, cond, List, [], ◌∷◌, ◌++◌, length, refl, sym, ap, ◌∙◌, arith, append_assoc, ne_eqb, bytes_of, due, with_rest, LinkEvent, Piece, NotYet, Fail, End}

-- the rest of a piece comes before the bytes of the events
pub bytes_of-with_rest : (rest : List ℕ) (events : List LinkEvent) → bytes_of (with_rest rest events) ≡ rest ++ bytes_of events
bytes_of-with_rest [] events = refl
bytes_of-with_rest (byte ∷ rest) events = refl

-- empty pieces have no bytes
pub bytes_of-due : (events : List LinkEvent) → bytes_of (due events) ≡ bytes_of events
bytes_of-due [] = refl
bytes_of-due (Piece [] ∷ events) = bytes_of-due events
bytes_of-due (Piece (byte ∷ bytes) ∷ events) =
    ap (λ none. bytes_of (cond none (due events) (Piece (byte ∷ bytes) ∷ events))) (ne_eqb (length (byte ∷ bytes)) 0 (λ same. omega arith))
bytes_of-due (NotYet ∷ events) = refl
bytes_of-due (Fail ∷ events) = refl
bytes_of-due (End ∷ events) = refl

-- what is due of two lists is the same, so their bytes are
pub bytes_of-same : (now old : List LinkEvent) → due now ≡ due old → bytes_of now ≡ bytes_of old
bytes_of-same now old same = sym (bytes_of-due now) ∙ ap bytes_of same ∙ bytes_of-due old

-- a front of the piece was taken
pub bytes_of-taken : (piece front rest : List ℕ) (events : List LinkEvent) → piece ≡ front ++ rest
    → bytes_of (with_rest piece events) ≡ front ++ bytes_of (with_rest rest events)
bytes_of-taken piece front rest events taken =
    bytes_of-with_rest piece events ∙ ap (λ bytes. bytes ++ bytes_of events) taken
    ∙ append_assoc front rest (bytes_of events) ∙ ap (λ bytes. front ++ bytes) (sym (bytes_of-with_rest rest events))
