-- Verdicts and audiences that are tested for being one.
use Rattle.mum_audit.proofs.Common.{◌≡◌, ◌∙◌, ℕ, suc, length, false, true, eqb, List, [], ◌∷◌, refl, ap, and_from, and_parts, and_right, eq-eqb, eqb-true, false≢true, ChannelId, Perm, Mark, Accepted, Lacks, Refused, Rejected, Answer, Ignored, Member, same_member, same_members, same_verdict}

eqb-same : (n : ℕ) → eqb n n ≡ true
eqb-same n = eq-eqb n n refl

abbrev lacks_by : ℕ → ℕ → Mark
lacks_by perm channel = Lacks (record { 0 = perm }) (record { 0 = channel })

lacks_is : (perm other : Perm) (channel place : ChannelId) → perm.0 ≡ other.0 → channel.0 ≡ place.0 → Lacks perm channel ≡ Lacks other place
lacks_is perm other channel place perms channels = ap (λ (n : ℕ). lacks_by n channel.0) perms ∙ ap (lacks_by other.0) channels

pub same_is : (one other : Mark) → same_verdict one other ≡ true → one ≡ other
same_is (Accepted r1) (Accepted r2) same = ap Accepted (eqb-true r1 r2 same)
same_is (Accepted r1) (Lacks p2 c2) same = absurd (false≢true same)
same_is (Accepted r1) (Refused k2) same = absurd (false≢true same)
same_is (Accepted r1) (Rejected k2) same = absurd (false≢true same)
same_is (Accepted r1) Answer same = absurd (false≢true same)
same_is (Accepted r1) (Ignored w2) same = absurd (false≢true same)
same_is (Lacks p1 c1) (Accepted r2) same = absurd (false≢true same)
same_is (Lacks p1 c1) (Lacks p2 c2) same =
    let parts = and_parts (eqb p1.0 p2.0) (eqb c1.0 c2.0) same in
    lacks_is p1 p2 c1 c2 (eqb-true p1.0 p2.0 parts.0) (eqb-true c1.0 c2.0 parts.1)
same_is (Lacks p1 c1) (Refused k2) same = absurd (false≢true same)
same_is (Lacks p1 c1) (Rejected k2) same = absurd (false≢true same)
same_is (Lacks p1 c1) Answer same = absurd (false≢true same)
same_is (Lacks p1 c1) (Ignored w2) same = absurd (false≢true same)
same_is (Refused k1) (Accepted r2) same = absurd (false≢true same)
same_is (Refused k1) (Lacks p2 c2) same = absurd (false≢true same)
same_is (Refused k1) (Refused k2) same = ap Refused (eqb-true k1 k2 same)
same_is (Refused k1) (Rejected k2) same = absurd (false≢true same)
same_is (Refused k1) Answer same = absurd (false≢true same)
same_is (Refused k1) (Ignored w2) same = absurd (false≢true same)
same_is (Rejected k1) (Accepted r2) same = absurd (false≢true same)
same_is (Rejected k1) (Lacks p2 c2) same = absurd (false≢true same)
same_is (Rejected k1) (Refused k2) same = absurd (false≢true same)
same_is (Rejected k1) (Rejected k2) same = ap Rejected (eqb-true k1 k2 same)
same_is (Rejected k1) Answer same = absurd (false≢true same)
same_is (Rejected k1) (Ignored w2) same = absurd (false≢true same)
same_is Answer (Accepted r2) same = absurd (false≢true same)
same_is Answer (Lacks p2 c2) same = absurd (false≢true same)
same_is Answer (Refused k2) same = absurd (false≢true same)
same_is Answer (Rejected k2) same = absurd (false≢true same)
same_is Answer Answer same = refl
same_is Answer (Ignored w2) same = absurd (false≢true same)
same_is (Ignored w1) (Accepted r2) same = absurd (false≢true same)
same_is (Ignored w1) (Lacks p2 c2) same = absurd (false≢true same)
same_is (Ignored w1) (Refused k2) same = absurd (false≢true same)
same_is (Ignored w1) (Rejected k2) same = absurd (false≢true same)
same_is (Ignored w1) Answer same = absurd (false≢true same)
same_is (Ignored w1) (Ignored w2) same = ap Ignored (eqb-true w1 w2 same)

pub same_itself : (one : Mark) → same_verdict one one ≡ true
same_itself (Accepted revision) = eqb-same revision
same_itself (Lacks perm channel) = and_from (eqb perm.0 perm.0) (eqb channel.0 channel.0) (eqb-same perm.0) (eqb-same channel.0)
same_itself (Refused kind) = eqb-same kind
same_itself (Rejected kind) = eqb-same kind
same_itself Answer = refl
same_itself (Ignored why) = eqb-same why

abbrev member_by : ℕ → ℕ → Member
member_by session context = (record { 0 = session }, context)

member_is : (one other : Member) → same_member one other ≡ true → one ≡ other
member_is one other same =
    let parts = and_parts (eqb one.0.0 other.0.0) (eqb one.1 other.1) same in
    ap (λ (n : ℕ). member_by n one.1) (eqb-true one.0.0 other.0.0 parts.0) ∙ ap (member_by other.0.0) (eqb-true one.1 other.1 parts.1)

pub members_are : (ones others : List Member) → same_members ones others ≡ true → ones ≡ others
members_are [] [] same = refl
members_are [] (other ∷ others) same = absurd (false≢true same)
members_are (one ∷ ones) [] same = absurd (false≢true same)
members_are (one ∷ ones) (other ∷ others) same =
    let parts = and_parts (same_member one other) (same_members ones others) same in
    ap (λ (first : Member). first ∷ ones) (member_is one other parts.0) ∙ ap (λ (rest : List Member). other ∷ rest) (members_are ones others parts.1)

pub members_themselves : (ones : List Member) → same_members ones ones ≡ true
members_themselves [] = refl
members_themselves (one ∷ ones) =
    and_from (same_member one one) (same_members ones ones)
    (and_from (eqb one.0.0 one.0.0) (eqb one.1 one.1) (eqb-same one.0.0) (eqb-same one.1)) (members_themselves ones)

pub lengths_apart : (ones others : List Member) → (length ones ≡ length others → ⊥) → same_members ones others ≡ false
lengths_apart [] [] apart = absurd (apart refl)
lengths_apart [] (other ∷ others) apart = refl
lengths_apart (one ∷ ones) [] apart = refl
lengths_apart (one ∷ ones) (other ∷ others) apart =
    and_right (same_member one other) (same_members ones others) (lengths_apart ones others (λ same. apart (ap suc same)))
