use Rattle.mum_state.proofs.Common.{refl, sym, subst, rules, arith, All-replicate, IsProperTree, root_alone, IsProperRoster, empty_roster, ChannelsState, IsNear, IsProper, empty_state}
use Rattle.mum_state.proofs.parts.Parts.empty.Goals as goal

empty_proper : IsProperTree root_alone → IsProperRoster empty_roster → IsProper empty_state
empty_proper tree roster = record {
  welcome = refl;
  names = tt;
  accounts = search rules;
  few_accounts = omega arith;
  short_names = refl;
  tree = tree;
  channels = refl;
  policies = refl;
  sound_policies = refl;
  roster = roster;
  users = refl;
  inside = refl;
  listening = refl;
  counts = record {
    revision = omega arith;
    policy = omega arith;
    routing = omega arith;
    each = All-replicate (IsNear 0) 512 0 (omega arith);
    one_each = refl;
  };
}

pub returns-clause-empty : goal.returns-clause-empty
returns-clause-empty c =
    rw (c.empty.ensures, c.new-3.ensures, c.in_ok-new.ensures.root, c.in_ok-new-2.ensures.empty, c.in_ok-vec.ensures.items_if_clones_equal (λ count same. same)) refl

pub returns-clause-proper : goal.returns-clause-proper
returns-clause-proper c =
    subst IsProper (sym (returns-clause-empty c))
    (empty_proper
    (subst (λ (channels : ChannelsState). IsProperTree channels.tree) c.in_ok-new.ensures.root c.in_ok-new.ensures.proper)
    (subst IsProperRoster c.in_ok-new-2.ensures.empty c.in_ok-new-2.ensures.proper))
