use Rattle.mum_tree.proofs.Common.{◌≡◌, ◌+◌, ◌<◌, ℕ, Some, None, length, get_or, arith, ap, subst, ◌∙◌, option_map, get_or_read, ChannelId, Row, level, upward}
use Rattle.mum_tree.proofs.{Depths.level_at_root, Depths.level_at_top, Depths.level_short, Depths.level_under, Depths.levels_set, Depths.parent_there, Depths.row_found, Depths.way_shorter, Start.root_row}
use Rattle.mum_tree.proofs.levels.+find_level.Goals as goal

pub returns-then-row-top-clause-value : goal.returns-then-row-top-clause-value
returns-then-row-top-clause-value t c =
    let rows = c.args.rows.now in
    let row = c.index-rows-at.result in
    let found = row_found rows c.args.at row c.requires.rise c.requires.there c.index-rows-at.is in
    λ other. subst (λ (r : Row). Some 0 ≡ level rows c.args.top r.channel.id) (get_or_read rows c.args.at row c.requires.there c.index-rows-at.is other) (level_at_top rows c.args.top row.channel.id row found c.if-row-top.true)

pub returns-then-row-clause-value : goal.returns-then-row-clause-value
returns-then-row-clause-value t c =
    let rows = c.args.rows.now in
    let row = c.index-rows-at.result in
    let found = row_found rows c.args.at row c.requires.rise c.requires.there c.index-rows-at.is in
    λ other. subst (λ (r : Row). None ≡ level rows c.args.top r.channel.id) (get_or_read rows c.args.at row c.requires.there c.index-rows-at.is other) (level_at_root rows c.args.top row.channel.id row found c.if-row-top.false c.if-row.true)

pub place_in_rows-above-requires-clause-there : goal.place_in_rows-above-requires-clause-there
place_in_rows-above-requires-clause-there t c =
    let row = c.index-rows-at.result in
    parent_there c.args.rows.now row.channel.id row c.requires.lead (row_found c.args.rows.now c.args.at row c.requires.rise c.requires.there c.index-rows-at.is) c.if-row.false

pub find_level-requires : goal.find_level-requires
find_level-requires t c =
    let rows = c.args.rows.now in
    let row = c.index-rows-at.result in
    let found = row_found rows c.args.at row c.requires.rise c.requires.there c.index-rows-at.is in
    let shorter = way_shorter rows row.channel.id row c.requires.lead found c.if-row.false in
    let here = ap (λ (r : Row). length (upward rows 33 r.channel.id)) (get_or_read rows c.args.at row c.requires.there c.index-rows-at.is root_row) in
    let above = ap (λ (id : ChannelId). length (upward rows 33 id)) (c.place_in_rows-above.ensures.is root_row) in
    (omega (arith, c.decreases), (c.requires.rise, (c.requires.lead, (c.requires.places_fit, (c.requires.places_apart, (c.place_in_rows-above.ensures.within, (c.requires.room, c.requires.right)))))))

pub one_further-level-requires : goal.one_further-level-requires
one_further-level-requires t c =
    let rows = c.args.rows.now in
    let parent = c.index-rows-at.result.channel.parent in
    level_short rows c.args.top parent c.find_level.result (c.find_level.ensures.value root_row ∙ ap (level rows c.args.top) (c.place_in_rows-above.ensures.is root_row))

pub returns-clause-value : goal.returns-clause-value
returns-clause-value t c =
    let rows = c.args.rows.now in
    let row = c.index-rows-at.result in
    let found = row_found rows c.args.at row c.requires.rise c.requires.there c.index-rows-at.is in
    let above = c.find_level.ensures.value root_row ∙ ap (level rows c.args.top) (c.place_in_rows-above.ensures.is root_row) in
    let here = c.one_further-level.ensures ∙ ap (option_map (λ (k : ℕ). k + 1)) above ∙ level_under rows c.args.top row.channel.id row c.requires.lead found c.if-row-top.false c.if-row.false in
    λ other. subst (λ (r : Row). c.one_further-level.result ≡ level rows c.args.top r.channel.id) (get_or_read rows c.args.at row c.requires.there c.index-rows-at.is other) here

pub returns-clause-kept : goal.returns-clause-kept
returns-clause-kept t c =
    let rows = c.args.rows.now in
    let row = c.index-rows-at.result in
    let found = row_found rows c.args.at row c.requires.rise c.requires.there c.index-rows-at.is in
    let above = c.find_level.ensures.value root_row ∙ ap (level rows c.args.top) (c.place_in_rows-above.ensures.is root_row) in
    let here = c.one_further-level.ensures ∙ ap (option_map (λ (k : ℕ). k + 1)) above ∙ level_under rows c.args.top row.channel.id row c.requires.lead found c.if-row-top.false c.if-row.false in
    let places_fit : (get_or rows c.args.at row).place < 2048 = c.requires.places_fit c.args.at row c.requires.there in
    let same : row.place ≡ (get_or rows c.args.at row).place = ap (λ (r : Row). r.place) c.index-rows-at.is in
    let inside : row.place < length c.find_level.new.known = omega (arith, c.requires.room, c.find_level.auto.known) in
    levels_set rows c.args.top c.find_level.new.known c.args.at row c.one_further-level.result c.requires.there c.index-rows-at.is inside c.requires.places_apart here c.find_level.ensures.kept
