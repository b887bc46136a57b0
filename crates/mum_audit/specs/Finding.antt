-- What is wrong with a line: what it says, and what it had to say, in the words of the journal.
use Rattle.std.specs.Prelude.{ℕ, ◌==◌, ◌&&◌, Bool, true, false, List, [], ◌∷◌, ◌++◌, length, map, decimal}
use Rattle.hex.specs.Hex.{encode_lower}
use Rattle.mum_base.specs.declared.reply.Mark.{Mark}
use Rattle.mum_base.specs.declared.reply.Mark.TheVariants.{Accepted, Lacks, Refused, Rejected, Answer, Ignored}
use Rattle.mum_record.specs.{Journal.verdict_words, Words.line_of_words}
use Rattle.mum_record.specs.declared.journal.Marked.{Marked}
use Rattle.mum_route.specs.Route.{Member}
use Rattle.mum_audit.specs.declared.finding.Finding.{Finding}

-- ---- verdicts

-- a verdict, as a journal has it
abbrev pub verdict_text : Mark → List ℕ
verdict_text mark = line_of_words (verdict_words mark)

-- the two are one verdict
abbrev pub same_verdict : Mark → Mark → Bool
same_verdict (Accepted revision) (Accepted other) = revision == other
same_verdict (Lacks perm channel) (Lacks other place) = (perm.0 == other.0) && (channel.0 == place.0)
same_verdict (Refused kind) (Refused other) = kind == other
same_verdict (Rejected kind) (Rejected other) = kind == other
same_verdict Answer Answer = true
same_verdict (Ignored why) (Ignored other) = why == other
same_verdict given defined = false

-- ---- audiences

-- for whom copies are, each with the context in which it hears the packet
abbrev pub members_of : List Marked → List Member
members_of copies = map (λ copy. (copy.session, copy.context)) copies

-- the two are one member
abbrev pub same_member : Member → Member → Bool
same_member one other = (one.0.0 == other.0.0) && (one.1 == other.1)

-- the same members in the same order
abbrev pub same_members : List Member → List Member → Bool
same_members [] [] = true
same_members (one ∷ ones) (other ∷ others) = same_member one other && same_members ones others
same_members ones others = false

-- SESSION/CONTEXT
abbrev pub member_word : Member → List ℕ
member_word member = decimal member.0.0 ++ 47 ∷ decimal member.1

-- how many hear a packet, and who they are
abbrev pub audience_text : List Member → List ℕ
audience_text members = line_of_words (decimal (length members) ∷ map member_word members)

-- ---- findings

-- a number is not the expected one
abbrev pub numbers_differ : ℕ → ℕ → Finding
numbers_differ given defined = record { given = decimal given; defined = decimal defined }

abbrev pub verdicts_differ : Mark → Mark → Finding
verdicts_differ given defined = record { given = verdict_text given; defined = verdict_text defined }

abbrev pub audiences_differ : List Member → List Member → Finding
audiences_differ given defined = record { given = audience_text given; defined = audience_text defined }

-- a packet does not parse, for the fault of this number
abbrev pub packet_is_faulty : List ℕ → ℕ → Finding
packet_is_faulty packet code = record { given = encode_lower packet; defined = decimal code }
