-- The document as a whole.
use Rattle.mum_config.proofs.Common.{◌≡◌, ℕ, Bool, true, false, List, length, Option, None, Some, Result, Ok, Err, is_some, refl, sym, ap, codes, is_none, nat_lt, IsUtf8, is_utf8, IsUtf8-from_is_utf8, is_utf8-from_IsUtf8, Data, Members, read, NotAnObject, NotJson, Config, DocumentError, ReadsText, against_document, config_of, fault_of, object_fault_of, value_of, Reads, later, none_said}

pub document_said : (found : Option Members) → is_some found ≡ false → against_document NotAnObject (is_none found) ≡ Some (record { cause = NotAnObject; key = codes "document" })
document_said None missing = refl
document_said (Some inner) missing = absurd (cc)

pub document_none : (found : Option Members) → is_some found ≡ true → against_document NotAnObject (is_none found) ≡ None
document_none None there = absurd (cc)
document_none (Some inner) there = refl

pub value_read : (text : List ℕ) (value : Data) → IsUtf8 text → read text ≡ Some value → value_of text ≡ Some value
value_read text value utf8 is = rw (is_utf8-from_IsUtf8 text utf8) is

no_value : (text : List ℕ) (utf8 : Bool) → is_utf8 text ≡ utf8 → (IsUtf8 text → read text ≡ None) → value_of text ≡ None
no_value text true is none = rw is (none (IsUtf8-from_is_utf8 text is))
no_value text false is none = rw is refl

pub no_value_said : (text : List ℕ) → (IsUtf8 text → read text ≡ None) → against_document NotJson (is_none (value_of text)) ≡ Some (record { cause = NotJson; key = codes "document" })
no_value_said text none = rw (no_value text _ refl none) refl

-- a text that is not too long is read as its value is
pub text_read : (text : List ℕ) (value : Data) (r : Result Config DocumentError) → nat_lt 65536 (length text) ≡ false → value_of text ≡ Some value → Reads (object_fault_of value) (config_of value) r → ReadsText text r
unfolding fault_of
text_read text value (Ok config) short is reads =
    rw (is, short) (none_said _ _ refl (none_said _ _ refl reads.0), ap Some (sym reads.1))
text_read text value (Err e) short is names = rw (is, short) (later e _ _ refl (later e _ _ refl names))
