use Rattle.mum_cache.proofs.Common.{◌≡◌, ◌∙◌, Some, ap, sym, option_copied, RosterState, session_of, slot_below}
use Rattle.mum_cache.proofs.Answered.{key_is}
use Rattle.mum_cache.proofs.perms.key_of.Goals as goal

pub session_stamp-requires : goal.session_stamp-requires
session_stamp-requires c =
    let found : session_of c.args.state.now.roster c.args.session ≡ Some c.in-Some.user.now =
    sym (ap (λ (r : RosterState). session_of r c.args.session) c.roster.ensures.roster) ∙ sym c.session.ensures.row ∙ ap option_copied c.in-Some.is in
    slot_below c.args.state.now.roster c.args.session c.in-Some.user.now c.roster.ensures.proper.roster found

pub returns : goal.returns
returns c =
    let found : session_of c.args.state.now.roster c.args.session ≡ Some c.in-Some.user.now =
    sym (ap (λ (r : RosterState). session_of r c.args.session) c.roster.ensures.roster) ∙ sym c.session.ensures.row ∙ ap option_copied c.in-Some.is in
    key_is c.args.state.now c.args.session c.args.channel c.in-Some.user.now c.in-Some-place.place c.stamps.result.policy c.session_stamp.result
    c.roster.ensures.proper found (sym c.place.ensures ∙ c.in-Some-place.is) c.stamps.ensures.policy c.session_stamp.ensures
