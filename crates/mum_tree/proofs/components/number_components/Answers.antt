use Rattle.mum_tree.proofs.Common.{◌∙◌, List, ℕ, length, ap, sym, subst, AreComponents}
use Rattle.mum_tree.proofs.Numbered.{put_back}
use Rattle.mum_tree.proofs.components.number_components.Goals as goal

pub returns : goal.returns
returns c =
    subst (λ (numbers : List ℕ). AreComponents c.args.rows.now c.args.links.now numbers) (sym (put_back _ c.number_rows.new.numbers c.args.numbers.now.items (sym c.deref_mut.ensures.len ∙ ap (λ (ns : List ℕ). length ns) c.deref_mut.ensures.value ∙ c.requires.whole ∙ sym c.number_rows.ensures.whole))) c.number_rows.ensures
