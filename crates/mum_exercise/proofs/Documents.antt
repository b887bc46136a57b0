-- The configuration of an exercise has no fault: it is read by computing.
use Rattle.mum_exercise.proofs.Common.{◌≡◌, None, refl, codes, scan_numeral, digits, chars, is_utf8, encode, value, lex, punctuate, content, after_number, word, account_fault, channel_fault, made_fault, root_fault, with_channel_met, fault_of, object_fault_of, Fault, or_else, within, needed, wanted, number_of, document, document_fault}

pub document_good : document_fault document ≡ None
unfolding document fault_of object_fault_of or_else within needed wanted channel_fault made_fault root_fault with_channel_met account_fault number_of digits chars is_utf8 encode value lex punctuate content after_number word scan_numeral
document_good = refl

-- the document as the program has it
pub document_read : codes "{\"channels\":[{\"id\":1,\"parent\":0,\"name\":\"c1\"},{\"id\":2,\"parent\":0,\"name\":\"c2\"},{\"id\":3,\"parent\":1,\"name\":\"c3\"},{\"id\":4,\"parent\":1,\"name\":\"c4\"},{\"id\":5,\"parent\":2,\"name\":\"c5\"},{\"id\":6,\"parent\":2,\"name\":\"c6\"},{\"id\":7,\"parent\":3,\"name\":\"c7\"}]}" ≡ document
unfolding document digits
document_read = refl
