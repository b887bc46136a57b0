use Rattle.mum_viewer.proofs.Common.{◌≡◌, ◌++◌, ◌∷◌, [], refl, sym, subst, IsPrefix, ask_at, PassFacts, view_ask}
use Rattle.mum_viewer.proofs.laws.looks_go_on.Goals as goal

pub returns : goal.returns
returns c = λ old new found looks.
    subst (λ (pass : PassFacts). IsPrefix old.seen pass.seen × (pass.asks ≡ old.asks ++ ask_at pass.seen view_ask ∷ [])) (sym looks.asked) (looks.met.seen, refl)
