use Rattle.mum_core.proofs.Common.{◌≡◌, ◌∙◌, ap, List, ℕ, [], ◌∷◌, ◌++◌, length, append_assoc, IfOk-weaker, string_bytes, codes, decimal, flat_map, line_of_words, hearer_word}
use Rattle.mum_core.proofs.Routes.{route_line}
use Rattle.mum_core.proofs.machine.look.push_route.Goals as goal

pub returns : goal.returns
returns c =
    let old : List ℕ = string_bytes c.args.text.now in
    let first : List ℕ = line_of_words (codes "route" ∷ decimal c.args.worker ∷ decimal c.args.revision ∷ decimal (length c.args.hearers.now) ∷ []) in
    let others : List ℕ = flat_map (λ hearer. 32 ∷ hearer_word hearer) c.args.hearers.now in
    let begun : string_bytes c.push_line.new.text ≡ old ++ first = rw c.from.ensures at c.in_ok-push_line.ensures in
    IfOk-weaker c.push_hearers.result _ _
    (λ _ is. is ∙ ap (λ (xs : List ℕ). xs ++ others) begun ∙ append_assoc old first others ∙ ap (λ (xs : List ℕ). old ++ xs) (route_line c.args.worker c.args.revision c.args.hearers.now))
    c.push_hearers.ensures
