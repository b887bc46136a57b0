-- A meter as it is used, by its own clock.
use Rattle.mum_pace.proofs.Common.{◌≡◌, ℕ, ◌+◌, ◌-◌, ◌*◌, ◌^◌, ◌<◌, ◌≤◌, List, [], ◌∷◌, Option, Some, None, max, sym, ap, subst, arith, Cost, Pace, Limited, Rate, AreUses, AreWithin, KeepsPace, asked_and_read, bytes_that_come, MeterState, given_back, Place, cost_in}
use Rattle.mum_pace.proofs.{Counting.state, Kept.IsGivenBack, Kept.kept_limited, Kept.messages_fit, Kept.one_more, Kept.times, Kept.voice_fits, Runs.cost_in-append}

-- where nothing comes
only_time : (used each at_once start here last frames : ℕ) → max start here ≤ last
    → used - (here - start) * each + frames * 1000 ≤ at_once * 1000 + (last - max start here) * each
    → used + frames * 1000 ≤ at_once * 1000 + (last - start) * each
only_time used each at_once start here last frames le behind =
    let e = times start here last each (omega arith) in
    omega arith

module _ (messages voice : Rate) (few : messages.at_once < 2 ^ 32) (little : voice.at_once < 2 ^ 32) where
  abbrev here : ℕ → Place → ℕ → ℕ → MeterState
  here milliseconds place of_messages of_voice = state (Limited messages voice) milliseconds place of_messages of_voice

  all_uses : (uses : List (Option (List ℕ))) (milliseconds : ℕ) (place : Place) (of_messages of_voice : ℕ) (new : MeterState)
      → KeepsPace (here milliseconds place of_messages of_voice) → AreUses uses (here milliseconds place of_messages of_voice) new
      → (milliseconds ≤ new.milliseconds)
      × IsGivenBack messages of_messages (new.milliseconds - milliseconds) (cost_in place (bytes_that_come uses)).messages
      × IsGivenBack voice of_voice (new.milliseconds - milliseconds) (cost_in place (bytes_that_come uses)).voice
  unfolding cost_in
  all_uses [] milliseconds place of_messages of_voice new keeps is =
      let same : new.milliseconds ≡ milliseconds = ap (λ (m : MeterState). m.milliseconds) is in
      (omega arith, omega (arith, keeps.used.0), omega (arith, keeps.used.1))
  all_uses (None ∷ uses) milliseconds place of_messages of_voice new keeps (next, (time, e), more) =
      let m : ℕ = given_back messages (time - milliseconds) of_messages in
      let v : ℕ = given_back voice (time - milliseconds) of_voice in
      let kept : KeepsPace (here (max milliseconds time) place m v) =
      record { place = keeps.place; used = (omega (arith, keeps.used.0), omega (arith, keeps.used.1)) } in
      let behind = all_uses uses (max milliseconds time) place m v new kept (subst (λ (s : MeterState). AreUses uses s new) e more) in (
        omega (arith, behind.0),
        only_time of_messages messages.each_second messages.at_once milliseconds time new.milliseconds (cost_in place (bytes_that_come uses)).messages behind.0 behind.1,
        only_time of_voice voice.each_second voice.at_once milliseconds time new.milliseconds (cost_in place (bytes_that_come uses)).voice behind.0 behind.2,
      )
  all_uses (Some bytes ∷ uses) milliseconds place of_messages of_voice new keeps (next, (time, le, e), more) =
      let after : MeterState = asked_and_read (here milliseconds place of_messages of_voice) time bytes in
      let kept = kept_limited messages voice milliseconds place of_messages of_voice time bytes keeps le in
      let behind = all_uses uses after.milliseconds after.place after.messages after.voice new kept (subst (λ (s : MeterState). AreUses uses s new) e more) in
      let later : time ≤ new.milliseconds = omega (arith, behind.0) in
      let m = messages_fit messages voice milliseconds place of_messages of_voice time bytes keeps le in
      let v = voice_fits messages voice milliseconds place of_messages of_voice time bytes keeps le in
      let cost = cost_in-append place bytes (bytes_that_come uses) in (
        omega (arith, behind.0),
        subst (λ (c : Cost). IsGivenBack messages of_messages (new.milliseconds - milliseconds) c.messages) (sym cost)
            (one_more of_messages messages.each_second messages.at_once milliseconds time new.milliseconds (cost_in place bytes).messages
            (cost_in after.place (bytes_that_come uses)).messages later few m behind.1),
        subst (λ (c : Cost). IsGivenBack voice of_voice (new.milliseconds - milliseconds) c.voice) (sym cost)
            (one_more of_voice voice.each_second voice.at_once milliseconds time new.milliseconds (cost_in place bytes).voice
            (cost_in after.place (bytes_that_come uses)).voice later little v behind.2),
      )

pub within_the_rates : (old new : MeterState) (messages voice : Rate) (uses : List (Option (List ℕ))) → messages.at_once < 2 ^ 32 → voice.at_once < 2 ^ 32
    → KeepsPace old → old.pace ≡ Limited messages voice → AreUses uses old new
    → AreWithin messages (new.milliseconds - old.milliseconds) (cost_in old.place (bytes_that_come uses)).messages
    × AreWithin voice (new.milliseconds - old.milliseconds) (cost_in old.place (bytes_that_come uses)).voice
within_the_rates old new messages voice uses few little keeps e are =
    let all = all_uses messages voice few little uses old.milliseconds old.place old.messages old.voice new
    (subst (λ (p : Pace). KeepsPace (state p old.milliseconds old.place old.messages old.voice)) e keeps)
    (subst (λ (p : Pace). AreUses uses (state p old.milliseconds old.place old.messages old.voice) new) e are) in
    (omega (arith, all.1), omega (arith, all.2))
