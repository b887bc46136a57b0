-- What is kept of a proper state is good, and is kept again of the state that it makes.
use Rattle.mum_kept_laws.proofs.Common.{◌≡◌, ℕ, ◌%◌, ◌^◌, ◌<◌, true, List, [], ◌∷◌, map, Option, refl, sym, ap, subst, ◌∙◌, arith, option_map_or, ChannelId, ChannelPolicy, Row, is_there, IsProper, StateValue, Each, each_filter, each_map, KeptChannel, AreGoodLinks, kept, kept_channel, kept_channels, kept_links, kept_policy, policy_in, policy_payload, CanBeWritten, HaveNumbers, KeptIsGood, KeptIsKeptAgain, respelled}
use Rattle.mum_kept_laws.proofs.{KeptAgain.rebuilt_is_kept_lem, LinksGood.links_good, ReadBack.payload_back, Restricted.HasSound, Restricted.all_from_each, Restricted.channels_good, Restricted.kept_rows_are, Restricted.lasting_row, Restricted.lasting_rows, Restricted.policy_found, Restricted.rows_there}

pub kept_is_good_lem : KeptIsGood
kept_is_good_lem state proper written = (
  channels_good state proper written,
  subst (λ (rows : List Row). AreGoodLinks rows (kept_links state.tree)) (sym (kept_rows_are state)) (links_good state.tree proper.tree),
)

small : (n : ℕ) → n % 2 ^ 32 ≡ n → n < 2 ^ 32
small n same = omega arith

module _ (state : StateValue) (proper : IsProper state) (written : CanBeWritten state) where
  numbers : HaveNumbers (kept_channels state)
  numbers =
      all_from_each (λ channel. channel.id.0 < 2 ^ 32) (kept_channels state)
      (each_map (λ row. is_there state.tree.channels row.channel.id ≡ true) (λ channel. channel.id.0 < 2 ^ 32) (λ (row : Row). kept_channel state row.channel)
      (λ row there. let own : HasSound state proper written row.channel.id = policy_found state proper written row.channel.id there in small row.channel.id.0 own.typed.0.0)
      (lasting_rows state.tree.channels) (each_filter (λ row. is_there state.tree.channels row.channel.id ≡ true) lasting_row state.tree.channels (rows_there state proper written)))

  policy_again : (id : ChannelId) → is_there state.tree.channels id ≡ true → policy_payload id (policy_in (kept_policy state id)) ≡ kept_policy state id
  policy_again id there =
      let own : HasSound state proper written id = policy_found state proper written id there in
      let is : kept_policy state id ≡ policy_payload id own.policy = ap (λ (o : Option ChannelPolicy). option_map_or (policy_payload id) o []) own.is in
      ap (λ (payload : List ℕ). policy_payload id (policy_in payload)) is
      ∙ ap (policy_payload id) (payload_back id own.policy own.sound own.typed)
      ∙ sym is

  all_again : (rows : List Row) → Each (λ row. is_there state.tree.channels row.channel.id ≡ true) rows → map respelled (map (λ (row : Row). kept_channel state row.channel) rows) ≡ map (λ (row : Row). kept_channel state row.channel) rows
  all_again [] all = refl
  all_again (row ∷ rows) all =
      ap (λ (payload : List ℕ). record (kept_channel state row.channel) { policy = payload } ∷ map respelled (map (λ (one : Row). kept_channel state one.channel) rows)) (policy_again row.channel.id all.0)
      ∙ ap (λ (rest : List KeptChannel). kept_channel state row.channel ∷ rest) (all_again rows all.1)

  channels_again : map respelled (kept_channels state) ≡ kept_channels state
  channels_again = all_again (lasting_rows state.tree.channels) (each_filter (λ row. is_there state.tree.channels row.channel.id ≡ true) lasting_row state.tree.channels (rows_there state proper written))

pub kept_is_kept_again_lem : KeptIsKeptAgain
kept_is_kept_again_lem state configuration proper written fit_after =
    rebuilt_is_kept_lem (kept state) configuration (kept_is_good_lem state proper written) (numbers state proper written) fit_after
    ∙ ap (λ (channels : List KeptChannel). record { channels = channels; links = kept_links state.tree }) (channels_again state proper written)
