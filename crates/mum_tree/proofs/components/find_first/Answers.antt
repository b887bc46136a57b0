use Rattle.mum_tree.proofs.Common.{◌∙◌, ◌<◌, ◌≤◌, length, get_or, arith, length-set}
use Rattle.mum_tree.proofs.Numbered.{descends_set, halved}
use Rattle.mum_tree.proofs.components.find_first.Goals as goal

pub loop-numbers-preserved : goal.loop-numbers-preserved
loop-numbers-preserved c =
    let numbers = c.loop-numbers.numbers in
    let at = c.loop-numbers.at in
    let next = get_or numbers at 0 in
    let value = get_or numbers next 0 in
    let kept = c.loop-numbers.invariant in
    let inside : at < length numbers = omega (arith, c.requires.within, kept.whole, kept.within) in
    let low : next ≤ at = kept.down at inside in
    let lower : value ≤ next = kept.down next (omega arith) in
    record {
      whole = length-set numbers at value ∙ kept.whole;
      within = omega (arith, kept.within);
      down = descends_set numbers at value inside (omega arith) kept.down;
      found = λ first forest.
          let (now, same) = kept.found first forest in
          (halved numbers first at inside now, now.along next (omega arith) ∙ now.along at inside ∙ same);
    }
