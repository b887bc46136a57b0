use Rattle.mum_state.proofs.Common.{◌∙◌, ap, sym, subst, list_any, Rises, account_below, is_named, is_numbered, number_below}
use Rattle.mum_state.proofs.{Insertion.numbers_with, Orderly.rises_with}
use Rattle.mum_state.proofs.accounts.Accounts.add.Goals as goal

pub put_number-requires-clause-rise : goal.put_number-requires-clause-rise
put_number-requires-clause-rise c = subst (Rises number_below) (sym c.reserve-2.ensures.items) c.self.invariant.numbers.rise

pub put_account-requires-clause-rise : goal.put_account-requires-clause-rise
put_account-requires-clause-rise c = subst (Rises account_below) (sym c.reserve.ensures.items) c.self.invariant.rise

pub invariant_of-self-2 : goal.invariant_of-self-2
invariant_of-self-2 c =
    let unnamed = ap (list_any (is_named c.args.account.name)) c.self.view_is ∙ c.requires.name in
    let unnumbered = ap (list_any (is_numbered c.args.account.account)) c.self.view_is ∙ c.requires.number in
    rw (c.put_account.ensures, c.put_number.ensures, c.reserve.ensures.items, c.reserve-2.ensures.items) (record {
      rise = rises_with c.args.account c.self.inside.by_name.items unnamed c.self.invariant.rise;
      numbers = numbers_with c.args.account c.self.inside.by_name.items c.self.inside.numbers.items unnumbered c.self.invariant.numbers;
    })
