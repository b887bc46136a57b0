use Rattle.mum_audit.proofs.Common.{◌∙◌, map, sym, length-map, member_of, members_of}
use Rattle.mum_audit.proofs.Same.{lengths_apart}
use Rattle.mum_audit.proofs.voice.are_members.Goals as goal

pub returns-else-copies-hearers : goal.returns-else-copies-hearers
returns-else-copies-hearers c =
    let copies = c.args.copies.now in
    let hearers = c.args.hearers.now in
    sym (lengths_apart (members_of copies) (map member_of hearers)
    (λ same. c.if-copies-hearers.false (sym (length-map copies (λ copy. (copy.session, copy.context))) ∙ same ∙ length-map hearers member_of)))
