use Rattle.mum_owner.proofs.Common.{◌∙◌, sym, subst, find, WasAsked, is_of}
use Rattle.mum_owner.proofs.Desks.{owned_what}
use Rattle.mum_owner.proofs.owner.Owner.receive.Goals as goal

-- what it asks is as it came
pub receive_owned-requires-clause-asked : goal.receive_owned-requires-clause-asked
receive_owned-requires-clause-asked g c =
    subst WasAsked (sym (owned_what (find (is_of c.args.command.connection) c.self.inside.guests.rows) c.args.command c.in-Some.command (sym c.owned.ensures ∙ c.in-Some.is))) c.requires.asked
