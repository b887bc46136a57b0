use Rattle.mum_control.proofs.Common.{◌∙◌, ap, sym, option_map, SessionId, Slot, next_join, RosterState}
use Rattle.mum_control.proofs.sessions.next_slot.Goals as goal

pub returns-in-Some : goal.returns-in-Some
returns-in-Some c =
    ap (option_map (λ (next : SessionId × Slot). next.1))
    (sym c.in-Some.is ∙ c.next_join.ensures.next ∙ ap (λ (roster : RosterState). next_join roster) c.roster-roster.ensures.roster)

pub returns-in-None : goal.returns-in-None
returns-in-None c =
    ap (option_map (λ (next : SessionId × Slot). next.1))
    (sym c.in-None.is ∙ c.next_join.ensures.next ∙ ap (λ (roster : RosterState). next_join roster) c.roster-roster.ensures.roster)
