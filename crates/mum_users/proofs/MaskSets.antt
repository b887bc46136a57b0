-- Which slots are set in rows of masks, after a slot is set or cleared, and how many rows there are.
use Rattle.mum_users.proofs.Common.{◌≡◌, ℕ, ◌*◌, ◌/◌, ◌%◌, ◌<◌, ◌^◌, Bool, true, false, ◌&&◌, ◌||◌, not, cond, eqb, List, refl, sym, ap, ◌∙◌, eq-eqb, arith, bit_at, bit_not, bit_or, bit_and, w128, eqb-true, and_le_l, or_lt, ChannelId, MaskRow, AreMasks, mask_at, with_mask, with_slot, without_slot}
use Rattle.mum_users.proofs.MaskRows.{Rises-with_mask, bit_clear, bit_set, empties-with_mask, mask_at-lt, mask_at-with_mask}

-- a number by its word and its bit
same_slot : (slot other : ℕ) → slot / 128 ≡ other / 128 → slot % 128 ≡ other % 128 → slot ≡ other
same_slot slot other e f = omega arith

pub below_128 : (slot : ℕ) → slot % 128 < 128
below_128 slot = omega arith

module _ (is_set after : ChannelId → ℕ → Bool) (channel : ChannelId) (slot : ℕ) (rows : List MaskRow) (masks : AreMasks is_set rows) where
  here : ChannelId → ℕ → Bool
  here c s = eqb channel.0 c.0 && eqb slot s

  new_row : ℕ → MaskRow
  new_row mask = record { channel = channel; word = slot / 128; mask = mask }

  -- the mask after the change, at a slot
  changed : (c : ChannelId) (s mask : ℕ) → mask_at c (s / 128) (with_mask (record { channel = channel; word = slot / 128; mask = mask }) rows) ≡ cond (eqb channel.0 c.0 && eqb (slot / 128) (s / 128)) mask (mask_at c (s / 128) rows)
  changed c s mask = mask_at-with_mask (record { channel = channel; word = slot / 128; mask = mask }) c (s / 128) rows masks.rise

  same_mask : (c : ChannelId) (s : ℕ) → eqb channel.0 c.0 ≡ true → eqb (slot / 128) (s / 128) ≡ true → mask_at channel (slot / 128) rows ≡ mask_at c (s / 128) rows
  same_mask c s e f =
      ap (λ (n : ℕ). mask_at (record { 0 = n }) (slot / 128) rows) (eqb-true _ _ e) ∙ ap (λ (w : ℕ). mask_at c w rows) (eqb-true _ _ f)

  same_bit : (s : ℕ) → eqb (slot / 128) (s / 128) ≡ true → eqb (s % 128) (slot % 128) ≡ eqb slot s
  same_bit s f = step (eqb slot s) refl
    where
      word : slot / 128 ≡ s / 128
      word = eqb-true _ _ f

      step : (b : Bool) → eqb slot s ≡ b → eqb (s % 128) (slot % 128) ≡ b
      step true e = eq-eqb _ _ (ap (λ (n : ℕ). n % 128) (sym (eqb-true _ _ e)))
      step false e = other (eqb (s % 128) (slot % 128)) refl
        where
          other : (b : Bool) → eqb (s % 128) (slot % 128) ≡ b → b ≡ false
          other true g = cc (eq-eqb slot s (same_slot slot s word (sym (eqb-true _ _ g))))
          other false g = refl

  apart_word : (s : ℕ) → eqb (slot / 128) (s / 128) ≡ false → eqb slot s ≡ false
  apart_word s f = step (eqb slot s) refl
    where
      step : (b : Bool) → eqb slot s ≡ b → b ≡ false
      step true e = cc (eq-eqb (slot / 128) (s / 128) (ap (λ (n : ℕ). n / 128) (eqb-true _ _ e)))
      step false e = refl

  pub AreMasks-with_slot : ((c : ChannelId) (s : ℕ) → after c s ≡ (eqb channel.0 c.0 && eqb slot s || is_set c s)) → AreMasks after (with_slot channel slot rows)
  AreMasks-with_slot is_after = record {
    rise = Rises-with_mask _ rows masks.rise;
    none_empty = empties-with_mask _ rows (or_lt 128 _ _ (mask_at-lt channel (slot / 128) rows masks.none_empty) (omega arith)) masks.none_empty;
    bits = λ c s. ap (λ (m : ℕ). bit_at m (s % 128)) (changed c s (bit_or (mask_at channel (slot / 128) rows) (1 * 2 ^ (slot % 128) % 2 ^ 128))) ∙ step c s (eqb channel.0 c.0) (eqb (slot / 128) (s / 128)) refl refl ∙ ap (λ (b : Bool). cond {A = ℕ} b 1 0) (sym (is_after c s));
  }
    where
      step : (c : ChannelId) (s : ℕ) (b w : Bool) → eqb channel.0 c.0 ≡ b → eqb (slot / 128) (s / 128) ≡ w
          → bit_at (cond (eqb channel.0 c.0 && eqb (slot / 128) (s / 128)) (bit_or (mask_at channel (slot / 128) rows) (1 * 2 ^ (slot % 128) % 2 ^ 128)) (mask_at c (s / 128) rows)) (s % 128) ≡ cond {A = ℕ} (eqb channel.0 c.0 && eqb slot s || is_set c s) 1 0
      step c s false w e f = rw e (masks.bits c s)
      step c s true false e f = rw (e, f, apart_word s f) (masks.bits c s)
      step c s true true e f =
          rw (e, f) (bit_set (mask_at channel (slot / 128) rows) (slot % 128) (s % 128) (below_128 slot)
          ∙ ap (λ (b : Bool). cond b 1 (bit_at (mask_at channel (slot / 128) rows) (s % 128))) (same_bit s f)
          ∙ ap (λ (m : ℕ). cond (eqb slot s) 1 (bit_at m (s % 128))) (same_mask c s e f)
          ∙ ap (λ (m : ℕ). cond (eqb slot s) 1 m) (masks.bits c s)
          ∙ joined (eqb slot s) (is_set c s))
        where
          joined : (b i : Bool) → cond {A = ℕ} b 1 (cond i 1 0) ≡ cond (true && b || i) 1 0
          joined true i = refl
          joined false i = refl

  pub AreMasks-without_slot : ((c : ChannelId) (s : ℕ) → after c s ≡ (not (eqb channel.0 c.0 && eqb slot s) && is_set c s)) → AreMasks after (without_slot channel slot rows)
  AreMasks-without_slot is_after = record {
    rise = Rises-with_mask _ rows masks.rise;
    none_empty = empties-with_mask _ rows (omega (arith, and_le_l (mask_at channel (slot / 128) rows) (bit_not w128 (1 * 2 ^ (slot % 128) % 2 ^ 128)), mask_at-lt channel (slot / 128) rows masks.none_empty)) masks.none_empty;
    bits = λ c s. ap (λ (m : ℕ). bit_at m (s % 128)) (changed c s (bit_and (mask_at channel (slot / 128) rows) (bit_not w128 (1 * 2 ^ (slot % 128) % 2 ^ 128)))) ∙ step c s (eqb channel.0 c.0) (eqb (slot / 128) (s / 128)) refl refl ∙ ap (λ (b : Bool). cond {A = ℕ} b 1 0) (sym (is_after c s));
  }
    where
      step : (c : ChannelId) (s : ℕ) (b w : Bool) → eqb channel.0 c.0 ≡ b → eqb (slot / 128) (s / 128) ≡ w
          → bit_at (cond (eqb channel.0 c.0 && eqb (slot / 128) (s / 128)) (bit_and (mask_at channel (slot / 128) rows) (bit_not w128 (1 * 2 ^ (slot % 128) % 2 ^ 128))) (mask_at c (s / 128) rows)) (s % 128) ≡ cond {A = ℕ} (not (eqb channel.0 c.0 && eqb slot s) && is_set c s) 1 0
      step c s false w e f = rw e (masks.bits c s)
      step c s true false e f = rw (e, f, apart_word s f) (masks.bits c s)
      step c s true true e f =
          rw (e, f) (bit_clear (mask_at channel (slot / 128) rows) (slot % 128) (s % 128) (below_128 slot) (below_128 s)
          ∙ ap (λ (b : Bool). cond b 0 (bit_at (mask_at channel (slot / 128) rows) (s % 128))) (same_bit s f)
          ∙ ap (λ (m : ℕ). cond (eqb slot s) 0 (bit_at m (s % 128))) (same_mask c s e f)
          ∙ ap (λ (m : ℕ). cond (eqb slot s) 0 m) (masks.bits c s)
          ∙ parted (eqb slot s) (is_set c s))
        where
          parted : (b i : Bool) → cond {A = ℕ} b 0 (cond i 1 0) ≡ cond (not (true && b) && i) 1 0
          parted true i = refl
          parted false i = refl
