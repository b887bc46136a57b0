use Rattle.mum_config.proofs.Common.{◌<◌, length, map, refl, sym, ◌∙◌, rules, err_from_is_err_and, view, AccountsMet, account_edit, account_fault, with_account_met, elements_step, elements_stop, pushed}
use Rattle.mum_config.proofs.account.add_accounts.Goals as goal

pub returns-in_err-at_place-clause-reads : goal.returns-in_err-at_place-clause-reads
returns-in_err-at_place-clause-reads c =
    let p = err_from_is_err_and c.from_residual.result c.from_residual.ensures.1 in
    let v = c.index-values-place.result in
    let met : AccountsMet = record { numbers = c.loop-place.numbers.keys; names = map (λ n. n.now) c.loop-place.names.keys } in
    let said = c.in_err-at_place.ensures.reads (account_fault met (view v)) tt c.read_account.ensures.reads in
    rw (p.1, p.2, ← c.loop-place.invariant.0) (elements_stop account_fault with_account_met _ met c.args.values.now c.loop-place.place v c.index-values-place.is (search rules) said)

pub loop-place-preserved : goal.loop-place-preserved
loop-place-preserved c =
    let v = c.index-values-place.result in
    let met : AccountsMet = record { numbers = c.loop-place.numbers.keys; names = map (λ n. n.now) c.loop-place.names.keys } in
    let read = c.in_ok-at_place.ensures.reads (account_fault met (view v)) tt c.read_account.ensures.reads in
    let numbers = rw c.in_ok-at_place.ensures.ok at c.read_account.ensures.numbers in
    let names = rw c.in_ok-at_place.ensures.ok at c.read_account.ensures.names in
    let edits = rw c.in_ok-at_place.ensures.ok at c.read_account.ensures.edits in
    let inside : c.loop-place.place < length c.args.values.now = search rules in (
      rw (numbers, names) (sym (elements_step account_fault with_account_met met c.args.values.now c.loop-place.place v c.index-values-place.is inside read.0) ∙ c.loop-place.invariant.0),
      pushed account_edit _ _ _ _ c.args.values.now c.loop-place.place v c.index-values-place.is inside c.loop-place.invariant.1 edits refl,
    )
