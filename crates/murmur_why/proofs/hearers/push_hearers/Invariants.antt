use Rattle.std.proofs.Common.{◌≡◌, ◌++◌, take}
use Rattle.std.specs.Prelude.{string_bytes}
use Rattle.std.specs.List.{flat_map}
use Rattle.murmur_why.specs.Hearers.{hearer_line}
use Rattle.murmur_why.proofs.hearers.push_hearers.Given as goal

abbrev pub invariant-loop-user : goal.invariant-loop-user
invariant-loop-user l =
    string_bytes l.text
    ≡ string_bytes l.initial.text ++ flat_map (λ user. hearer_line l.state l.said.speaker l.said.target user.session) (take l.user-index l.users)
