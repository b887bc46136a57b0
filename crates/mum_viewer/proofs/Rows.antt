-- The rows of a tree by their index.
use Rattle.mum_viewer.proofs.Common.{◌≡◌, ℕ, List, Option, Some, None, get_or, refl, sym, ap, ◌∙◌, slice_get, option_map, get_or_from_slice_get, slice_get-map, slice_get_within, ChannelId, row_of_at, Channel, Row, number, row_of, Rise, TreeState, shown_channel, shown_channels, ShownChannel}

found : (rows : List Row) (index : ℕ) (id : ChannelId) (o : Option Row) → Rise rows → slice_get rows index ≡ o → Some id ≡ option_map (λ row. row.channel.id) o → row_of rows id ≡ o
found rows index id None rise got named = absurd (cc named)
found rows index id (Some row) rise got named =
    let is : get_or rows index row ≡ row = get_or_from_slice_get rows index row row got in
    let same : id ≡ row.channel.id = cc named in
    row_of_at rows index row id rise (slice_get_within rows index row got) (ap number is ∙ ap (λ (x : ChannelId). x.0) (sym same)) ∙ ap (λ (r : Row). Some r) is

-- where the row at the index has this number, it is the row of the channel
pub row_at_index : (rows : List Row) (index : ℕ) (id : ChannelId) → Rise rows → Some id ≡ option_map (λ row. row.channel.id) (slice_get rows index) → row_of rows id ≡ slice_get rows index
row_at_index rows index id rise named = found rows index id (slice_get rows index) rise refl named

shown_row : (tree : TreeState) (o : Option Row) → option_map (shown_channel tree) (option_map (λ row. row.channel) o) ≡ option_map (λ row. shown_channel tree row.channel) o
shown_row tree None = refl
shown_row tree (Some row) = refl

-- what is shown of the channel at the index
shown_at : (tree : TreeState) (index : ℕ) (o : Option Channel) → o ≡ option_map (λ row. row.channel) (slice_get tree.channels index) → option_map (shown_channel tree) o ≡ slice_get (shown_channels tree) index
shown_at tree index o is =
    ap (option_map (shown_channel tree)) is
    ∙ (shown_row tree (slice_get tree.channels index) ∙ sym (slice_get-map (λ (row : Row). shown_channel tree row.channel) tree.channels index))

pub some_shown : (tree : TreeState) (index : ℕ) (channel : Channel) (shown : ShownChannel) → Some channel ≡ option_map (λ row. row.channel) (slice_get tree.channels index)
    → shown ≡ shown_channel tree channel → Some shown ≡ slice_get (shown_channels tree) index
some_shown tree index channel shown got is = ap (λ (s : ShownChannel). Some s) is ∙ shown_at tree index (Some channel) got

pub none_shown : (tree : TreeState) (index : ℕ) → None ≡ option_map (λ row. row.channel) (slice_get tree.channels index) → None ≡ slice_get (shown_channels tree) index
none_shown tree index got = shown_at tree index None got
