use Rattle.mum_tree.proofs.Common.{◌≡◌, ◌-◌, ◌<◌, ◌++◌, ◌∷◌, [], true, eqb, length, reverse, List, Some, arith, ap, sym, subst, ◌∙◌, Contains, is_some, eqb-true, eqb-false, eq-eqb, take_at, length-reverse, ChannelId, row_of, upward}
use Rattle.mum_tree.proofs.Upward.{the_root, step_up, step_end, step_lead, lead_none, there_from_way, upward_missing, way_ends}
use Rattle.mum_tree.proofs.rows.find_path.Goals as goal

pub returns-in_default-clause-value : goal.returns-in_default-clause-value
returns-in_default-clause-value c =
    let left = 33 - length c.loop-channels.channels.items in
    lead_none c.args.rows.now left c.loop-channels.at c.args.id c.loop-channels.invariant.lead (upward_missing c.args.rows.now left c.loop-channels.at (sym ((c.in_default.ensures {u = tt}).value)))

pub returns-then-at-clause-value : goal.returns-then-at-clause-value
returns-then-at-clause-value c =
    let way = c.loop-channels.channels.items in
    let at = c.loop-channels.at in
    let open_end : length way ≡ 33 → ⊥ = eqb-false _ _ (sym c.is_full.ensures.value ∙ c.loop-channels-test.true) in
    let more : 0 < 33 - length way = omega (arith, c.loop-channels.invariant.within) in
    let whole = step_end c.args.rows.now (upward c.args.rows.now 33 c.args.id) way (33 - length way) at c.in-Some.row.now more (sym ((c.in-Some.ensures {u = tt}).value)) (eq-eqb at.0 0 c.if-at.true) c.loop-channels.invariant.front in
    let turned : c.reverse.new.self ≡ reverse c.push.new.self.items = c.reverse.ensures.after ∙ ap reverse c.deref_mut.ensures.value in
    let long : length c.reverse.new.self ≡ length c.push.new.self.items = ap length turned ∙ length-reverse c.push.new.self.items in
    take_at c.reverse.new.self _ (length c.push.new.self.items) long ∙ turned ∙ ap reverse (c.push.ensures.items ∙ whole)

pub returns-in_default-clause-there : goal.returns-in_default-clause-there
returns-in_default-clause-there c =
    let left = 33 - length c.loop-channels.channels.items in
    sym (ap is_some (lead_none c.args.rows.now left c.loop-channels.at c.args.id c.loop-channels.invariant.lead (upward_missing c.args.rows.now left c.loop-channels.at (sym ((c.in_default.ensures {u = tt}).value)))))

pub returns-then-at-clause-there : goal.returns-then-at-clause-there
returns-then-at-clause-there c =
    let way = c.loop-channels.channels.items in
    let at = c.loop-channels.at in
    let open_end : length way ≡ 33 → ⊥ = eqb-false _ _ (sym c.is_full.ensures.value ∙ c.loop-channels-test.true) in
    let more : 0 < 33 - length way = omega (arith, c.loop-channels.invariant.within) in
    let whole = step_end c.args.rows.now (upward c.args.rows.now 33 c.args.id) way (33 - length way) at c.in-Some.row.now more (sym ((c.in-Some.ensures {u = tt}).value)) (eq-eqb at.0 0 c.if-at.true) c.loop-channels.invariant.front in
    sym (there_from_way c.args.rows.now c.args.id way at whole)

pub loop-channels-preserved : goal.loop-channels-preserved
loop-channels-preserved c =
    let rows = c.args.rows.now in
    let way = c.loop-channels.channels.items in
    let at = c.loop-channels.at in
    let row = c.in-Some.row.now in
    let open_end : length way ≡ 33 → ⊥ = eqb-false _ _ (sym c.is_full.ensures.value ∙ c.loop-channels-test.true) in
    let more : 0 < 33 - length way = omega (arith, c.loop-channels.invariant.within) in
    let lower = λ (e : eqb at.0 0 ≡ true). c.if-at.false (eqb-true at.0 0 e) in
    let found : row_of rows at ≡ Some row = sym ((c.in-Some.ensures {u = tt}).value) in
    let less : 33 - length c.push.new.self.items ≡ 33 - length way - 1 = omega (arith, c.push.ensures.len) in
    record {
      within = omega (arith, c.push.ensures.len);
      front = ap (λ (us : List ChannelId). us ++ upward rows (33 - length c.push.new.self.items) row.channel.parent) c.push.ensures.items
          ∙ ap (λ n. (way ++ at ∷ []) ++ upward rows n row.channel.parent) less
          ∙ step_up rows (upward rows 33 c.args.id) way (33 - length way) at row more found lower c.loop-channels.invariant.front;
      lead = λ there. subst (λ n. Contains (upward rows n row.channel.parent) the_root) (sym less) (step_lead rows (33 - length way) at row more found lower (c.loop-channels.invariant.lead there));
    }

-- after 33 steps the way up is at its end, and it has the root
pub unreachable-requires : goal.unreachable-requires
unreachable-requires c =
    let way = c.loop-channels.channels.items in
    let full : length way ≡ 33 = eqb-true _ _ (sym c.is_full.ensures.value ∙ c.loop-channels-test.false) in
    way_ends c.args.rows.now way (33 - length way) c.loop-channels.at c.args.id (omega arith) full c.loop-channels.invariant.front c.loop-channels.invariant.lead
