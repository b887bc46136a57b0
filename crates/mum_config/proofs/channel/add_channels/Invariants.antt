use Rattle.mum_config.proofs.Common.{◌≡◌, ◌++◌, drop, fold, map, take, flat_map, view, channel_edits, channel_fault, met_of, with_channel_met, elements_fault}
use Rattle.mum_config.proofs.channel.add_channels.Given as goal

-- the first fault is not passed yet; the channels and the edits so far are there
abbrev pub invariant-loop-place : goal.invariant-loop-place
invariant-loop-place l =
    (elements_fault channel_fault with_channel_met (met_of l.met) l.place (map view (drop l.place l.values))
    ≡ elements_fault channel_fault with_channel_met (met_of l.fn.met) 0 (map view l.values))
    × (met_of l.met ≡ fold with_channel_met (met_of l.fn.met) (map view (take l.place l.values)))
    × (l.edits.items ≡ l.fn.edits.items ++ flat_map channel_edits (map view (take l.place l.values)))
