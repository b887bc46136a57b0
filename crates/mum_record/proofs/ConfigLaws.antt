-- The document that the line of a configuration names.
use Rattle.mum_record.proofs.Common.{◌≡◌, ℕ, ◌<◌, List, [], ◌∷◌, length, Some, None, IfOk, IsErrOf, Result, Ok, Err, refl, sym, ap, ◌∙◌, arith, lit<, codes, join_with_byte-slice_split, IsUtf8-from_ascii, ◌↔◌, join_with_byte, IsUtf8, encode_lower, IsBytes, LineFault, NotALine, OutOfMemory, words_in, config_word, config_line, IsConfigLine, document_of, config_in, config_of, Reads}
use Rattle.mum_record.proofs.{Numbers.none_unless, Splits.slice_split-join_all, Splits.join-IsAscii, Laws.chosen, EntryLaws.bytes_of-found, EntryLaws.bytes_of-encode_lower, EntryLaws.digits_other, Graphic.IsGraphic, Graphic.AreGraphic, Graphic.graphic_AreAllWords, Graphic.literal_graphic, Graphic.digits_lower_graphic}

config_word-some : (document : List ℕ) → 0 < length document → config_word document ≡ encode_lower document
config_word-some [] h = absurd (omega arith)
config_word-some (byte ∷ bytes) h = refl

document_of-found : (word document : List ℕ) → document_of word ≡ Some document → IsBytes document × (word ≡ config_word document)
document_of-found word document h =
    chosen word (codes "-") _ _ document (λ w e. let is : [] ≡ document = cc in rw (← is) ((λ i. lit< tt), w))
    (λ e. let found = bytes_of-found word document e in (found.0, found.2 ∙ sym (config_word-some document found.1)))
    h

config_in-found : (words : List (List ℕ)) (document : List ℕ) → config_in words ≡ Some document → IsBytes document × (words ≡ codes "config" ∷ config_word document ∷ [])
config_in-found [] document h = cc
config_in-found (name ∷ []) document h = cc
config_in-found (name ∷ word ∷ []) document h =
    chosen name (codes "config") _ _ document (λ w e. let found = document_of-found word document e in (found.0, rw (w, found.1) refl)) (λ e. cc) h
config_in-found (name ∷ word ∷ more ∷ others) document h = cc

pub config_of-found : (line document : List ℕ) → config_of line ≡ Some document → IsConfigLine line document
unfolding config_of
config_of-found line document h =
    let found = config_in-found (words_in line) document h in
    (found.0, sym (join_with_byte-slice_split 32 line) ∙ ap (join_with_byte 32) found.1)

config_graphic : (document : List ℕ) → IsBytes document → IsGraphic (config_word document)
config_graphic [] small = literal_graphic (codes "-") refl
config_graphic (byte ∷ bytes) small = digits_lower_graphic (byte ∷ bytes) small

pub config_words_graphic : (document : List ℕ) → IsBytes document → AreGraphic (codes "config" ∷ config_word document ∷ [])
config_words_graphic document small = (literal_graphic (codes "config") refl, (config_graphic document small, tt))

document_of-word : (document : List ℕ) → IsBytes document → document_of (config_word document) ≡ Some document
document_of-word [] small = refl
document_of-word (byte ∷ bytes) small =
    rw (digits_other (byte ∷ bytes) (codes "-") 0 refl, bytes_of-encode_lower (byte ∷ bytes) small (omega arith)) refl

pub config_of-line : (document : List ℕ) → IsBytes document → config_of (config_line document) ≡ Some document
unfolding config_of
config_of-line document small =
    ap config_in (slice_split-join_all (codes "config" ∷ config_word document ∷ []) (omega arith) (graphic_AreAllWords (codes "config" ∷ config_word document ∷ []) (config_words_graphic document small)))
    ∙ document_of-word document small

-- what is no text is no such line
pub config_of-no_text : (line : List ℕ) → (IsUtf8 line → ⊥) → config_of line ≡ None
config_of-no_text line not_text =
    none_unless (config_of line) (λ document is.
    let found = config_of-found line document is in
    let text : IsUtf8 line = rw found.1 (IsUtf8-from_ascii _ (join-IsAscii (codes "config" ∷ config_word document ∷ []) (graphic_AreAllWords (codes "config" ∷ config_word document ∷ []) (config_words_graphic document found.0)))) in
    not_text text)

pub Reads-config_found : (line : List ℕ) (r : Result (List ℕ) LineFault) → Reads r (config_of line) → IfOk r (IsConfigLine line)
Reads-config_found line (Ok document) h = config_of-found line document h
Reads-config_found line (Err e) h = tt

pub Reads-config_refused : (line : List ℕ) (r : Result (List ℕ) LineFault) → Reads r (config_of line) → IsErrOf r NotALine ↔ ((document : List ℕ) → IsConfigLine line document → ⊥)
Reads-config_refused line (Ok read) h = (λ e document is. cc, λ never. absurd (never read (config_of-found line read h)))
Reads-config_refused line (Err NotALine) h = (
  λ e document is.
      let found : config_of line ≡ Some document = rw is.1 (config_of-line document is.0) in
      cc,
  λ never. refl,
)
Reads-config_refused line (Err OutOfMemory) h = (
  λ e document is. cc,
  λ never.
      let none : config_of line ≡ None = none_unless (config_of line) (λ document is. never document (config_of-found line document is)) in
      cc (rw none at h),
)
