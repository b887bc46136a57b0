-- The texts that say a pace.
use Rattle.std.specs.Prelude.{ℕ, ◌^◌, ◌==◌, ◌&&◌, nat_lt, Bool, List, length, Option, Some, None, codes, if◌then◌else◌}
use Rattle.std.specs.Option.{option_and_then, option_map}
use Rattle.std.specs.{List.before_first, List.after_first, List.position_or_len, Str.all_ascii_digits, Str.bytes_eq}
use Rattle.std.specs.Str.Parse.{digits_value, without_leading_plus}
use Rattle.mum_pace.specs.declared.pace.{Pace.Pace, Pace.TheVariants.Limited, Pace.TheVariants.Unlimited, Rate.Rate}

-- what comes before the first such byte, and what after it
unfoldable pub halves : ℕ → List ℕ → Option (List ℕ × List ℕ)
halves mark text =
    if nat_lt (position_or_len (λ byte. byte == mark) text) (length text)
    then Some (before_first (λ byte. byte == mark) text, after_first (λ byte. byte == mark) text)
    else None

-- one decimal digit or more, and nothing else
abbrev pub are_digits : List ℕ → Bool
are_digits text = nat_lt 0 (length text) && all_ascii_digits text

-- the number above 0 that these digits write, if it has at most 32 bits
abbrev pub number_of_digits : List ℕ → Option ℕ
number_of_digits digits =
    if are_digits digits && nat_lt (digits_value 10 digits) (2 ^ 32) && nat_lt 0 (digits_value 10 digits)
    then Some (digits_value 10 digits)
    else None

-- the same with a plus or without one, as numbers are parsed
unfoldable pub number_of : List ℕ → Option ℕ
number_of text = number_of_digits (without_leading_plus text)

abbrev pub rate_with : Option ℕ → Option ℕ → Option Rate
rate_with each_second at_once =
    option_and_then (λ each. option_map (λ once. record { each_second = each; at_once = once }) at_once) each_second

-- the rate that `20/200` says: m frames each second, and n at once
unfoldable pub rate_of : List ℕ → Option Rate
rate_of text = option_and_then (λ parts. rate_with (number_of parts.0) (number_of parts.1)) (halves 47 text)

abbrev pub pace_with : Option Rate → Option Rate → Option Pace
pace_with messages voice =
    option_and_then (λ of_messages. option_map (λ of_voice. Limited of_messages of_voice) voice) messages

-- the pace that `none` says, or `20/200,200/400`: of messages, and of voice
unfoldable pub pace_of : List ℕ → Option Pace
pace_of text =
    if bytes_eq text (codes "none") then Some Unlimited
    else option_and_then (λ parts. pace_with (rate_of parts.0) (rate_of parts.1)) (halves 44 text)

-- what applies unless something else is asked for
abbrev pub usual_pace : Pace
usual_pace = Limited (record { each_second = 20; at_once = 200 }) (record { each_second = 200; at_once = 400 })
