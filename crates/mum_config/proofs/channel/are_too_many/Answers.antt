use Rattle.mum_config.proofs.Common.{◌≡◌, ℕ, ◌+◌, true, false, map, length, sym, refl, ◌∙◌, arith, add-zero, leb, nat_lt, nat_tests, list_any, length-map, view, is_root_entry, list_any-of_map}
use Rattle.mum_config.proofs.channel.are_too_many.Goals as goal

over_by_one : (n : ℕ) → leb 1024 n ≡ nat_lt 1024 (n + 1)
over_by_one n = grind (arith, nat_tests)

pub returns-then-names_root : goal.returns-then-names_root
returns-then-names_root c =
    let named : list_any is_root_entry (map view c.args.values.now) ≡ true = list_any-of_map is_root_entry view c.args.values.now ∙ sym c.names_root.ensures ∙ c.if-names_root.true in
    rw (named, length-map c.args.values.now view, add-zero) refl

pub returns-else-names_root : goal.returns-else-names_root
returns-else-names_root c =
    let unnamed : list_any is_root_entry (map view c.args.values.now) ≡ false = list_any-of_map is_root_entry view c.args.values.now ∙ sym c.names_root.ensures ∙ c.if-names_root.false in
    rw (unnamed, length-map c.args.values.now view) (over_by_one (length c.args.values.now))
