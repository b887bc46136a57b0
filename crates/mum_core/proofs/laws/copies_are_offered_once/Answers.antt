use Rattle.mum_core.proofs.Common.{hearers_at, start, state_at, ran}
use Rattle.mum_core.proofs.{Fitted.lawful_all, Fitted.lawful_start, Fitted.state_proper, Heard.copies_are_the_route, Heard.hearers_are_apart, Heard.loopback_is_the_speaker, Heard.nobody_hears_itself, Heard.pairs_apart, RunLaws.offers_take_the_first}
use Rattle.mum_core.proofs.laws.copies_are_offered_once.Goals as goal

pub returns-clause-route : goal.returns-clause-route
returns-clause-route c = copies_are_the_route

pub returns-clause-not_the_speaker : goal.returns-clause-not_the_speaker
returns-clause-not_the_speaker c = nobody_hears_itself

pub returns-clause-loopback : goal.returns-clause-loopback
returns-clause-loopback c = loopback_is_the_speaker

pub returns-clause-in_order : goal.returns-clause-in_order
returns-clause-in_order c = offers_take_the_first

pub returns-clause-each_once : goal.returns-clause-each_once
returns-clause-each_once c = λ version opening workers steps revision speaker target proper is.
    let core = ran (start version opening workers) steps in
    let fine = state_proper core revision (lawful_all (start version opening workers) steps (lawful_start version opening workers proper)) in
    pairs_apart (hearers_at (state_at core revision) speaker target) (hearers_are_apart (state_at core revision) speaker target fine)
