-- Worked frames, after the packet structure of the Mumble protocol documentation, so that a wrong rule in the specs
-- does not check.
use Rattle.mum_frame.proofs.Common.{◌≡◌, ℕ, ◌+◌, ◌<◌, ◌≤◌, true, false, List, [], ◌∷◌, ◌++◌, length, Some, None, Ok, Err, refl, arith, hex, HEADER_LENGTH, PAYLOAD_LIMIT, Frame, FrameTooLong, VERSION, AUTHENTICATE, PING, USER_STATE, spelling_of, IsFrame, named_length, kind_of, payload_of, is_one_frame, Splits, NextGives, fed, asked, Leads}
use Rattle.mum_frame.proofs.Headers.{HasNoFrame-no_header, HasNoFrame-cut}

-- ---- what a client opens with: Version, Authenticate, Ping, and a UserState with a plugin's context

abbrev version : List ℕ
version = hex "088088041207312e342e3238371a03583131"

abbrev login : List ℕ
login = hex "0a03616e6e1a06736563726574208b808080f8ffffffff012801"

abbrev ping : List ℕ
ping = hex "0805450000803f"

abbrev state : List ℕ
state = hex "5a02ffd8620267314800"

-- a frame of this type and payload is written as these bytes, and these bytes are one frame and read as it
abbrev IsSpelled : ℕ → List ℕ → List ℕ → Type 0
IsSpelled kind payload bytes =
    (spelling_of kind payload ≡ bytes) × (is_one_frame bytes ≡ true) × (kind_of bytes ≡ kind) × (payload_of bytes ≡ payload)

pub record AreSpelled : Type 0 where
  pub a_version : IsSpelled VERSION version (hex "000000000012" ++ version)
  pub a_login : IsSpelled AUTHENTICATE login (hex "00020000001a" ++ login)
  pub a_ping : IsSpelled PING ping (hex "000300000007" ++ ping)
  pub a_state : IsSpelled USER_STATE state (hex "00090000000a" ++ state)
  pub no_payload : IsSpelled PING [] (hex "000300000000")
  pub highest_byte_first : IsSpelled 258 (hex "0a0b") (hex "0102000000020a0b")

pub spelled : AreSpelled
unfolding spelling_of named_length kind_of payload_of
spelled = search

-- bytes that are not exactly one frame
pub record AreNoFrame : Type 0 where
  pub no_byte : is_one_frame [] ≡ false
  pub less_than_a_header : is_one_frame (hex "0003000000") ≡ false
  pub without_its_last_byte : is_one_frame (hex "000300000007" ++ hex "080545000080") ≡ false
  pub a_byte_more : is_one_frame (hex "000300000007" ++ ping ++ hex "00") ≡ false
  pub two_frames : is_one_frame (hex "000300000000" ++ hex "000300000000") ≡ false
  pub above_the_limit : is_one_frame (hex "000000800000") ≡ false

pub no_frame : AreNoFrame
unfolding spelling_of named_length kind_of payload_of
no_frame = search

-- ---- the limit

-- the longest payload is a frame's, whose header names it, and one byte more is too many
pub the_longest : (payload : List ℕ) → length payload ≡ 8388607 → IsFrame (record { kind = 1; payload = payload })
the_longest payload long = record { kind_fits = omega arith; within_limit = omega (arith, long) }

pub the_longest_written : (payload : List ℕ) → length payload ≡ 8388607 → spelling_of 1 payload ≡ hex "0001007fffff" ++ payload
unfolding spelling_of
the_longest_written payload long = rw long refl

pub one_byte_more : (payload : List ℕ) → length payload ≡ 8388608 → IsFrame (record { kind = 1; payload = payload }) → ⊥
one_byte_more payload long is = omega (arith, long, is.within_limit)

-- ---- frame by frame

abbrev frame : ℕ → List ℕ → Frame
frame kind payload = record { kind = kind; payload = payload }

-- less than a header, and less than the header names
waits : (bytes : List ℕ) → length bytes < HEADER_LENGTH → NextGives bytes (Ok None) bytes
waits bytes short = (HasNoFrame-no_header bytes short, (λ long. omega (arith, short, long.header)), refl)

waits_for_payload : (bytes : List ℕ) → length bytes < HEADER_LENGTH + named_length bytes → named_length bytes ≤ PAYLOAD_LIMIT → NextGives bytes (Ok None) bytes
waits_for_payload bytes short limit = (HasNoFrame-cut bytes short, (λ long. omega (arith, limit, long.above)), refl)

pub record AreNext : Type 0 where
  pub nothing_fed : NextGives [] (Ok None) []
  pub less_than_a_header : NextGives (hex "0003000000") (Ok None) (hex "0003000000")
  pub a_cut_payload : NextGives (hex "000300000007080545000080") (Ok None) (hex "000300000007080545000080")
  pub the_first_of_two : NextGives (hex "0003000000000102000000020a0b") (Ok (Some (frame PING []))) (hex "0102000000020a0b")
  pub the_last : NextGives (hex "0102000000020a0b") (Ok (Some (frame 258 (hex "0a0b")))) []
  pub too_long : NextGives (hex "000000800000") (Err (FrameTooLong 8388608)) (hex "000000800000")
  pub the_greatest_length : NextGives (hex "0001ffffffff") (Err (FrameTooLong 4294967295)) (hex "0001ffffffff")

pub next : AreNext
unfolding spelling_of named_length
next = record {
  nothing_fed = waits _ (omega arith);
  less_than_a_header = waits _ (omega arith);
  a_cut_payload = waits_for_payload _ (omega arith) (omega arith);
  the_first_of_two = search arith;
  the_last = search arith;
  too_long = search arith;
  the_greatest_length = search arith;
}

-- a frame and a part of the next, and then the rest of it
pub in_parts : Leads [] (
    fed (hex "0003000000000102") (Ok tt)
    ∷ asked (Ok (Some (frame PING [])))
    ∷ asked (Ok None)
    ∷ fed (hex "000000020a0b") (Ok tt)
    ∷ asked (Ok (Some (frame 258 (hex "0a0b"))))
    ∷ asked (Ok None)
    ∷ []) []
unfolding spelling_of
in_parts = (
  hex "0003000000000102",
  (
    refl,
    (
      hex "0102",
      (
        search arith,
        (
          hex "0102",
          (
            waits _ (omega arith),
            (
              hex "0102000000020a0b",
              (
                refl,
                (
                  [],
                  (
                    search arith,
                    ([], (waits _ (omega arith), refl)),
                  ),
                ),
              ),
            ),
          ),
        ),
      ),
    ),
  ),
)

-- a length that is too great is refused once its header is there, and for good
pub refused_for_good : Leads [] (
    fed (hex "0000008000") (Ok tt)
    ∷ asked (Ok None)
    ∷ fed (hex "00") (Ok tt)
    ∷ asked (Err (FrameTooLong 8388608))
    ∷ fed (hex "000300000000") (Ok tt)
    ∷ asked (Err (FrameTooLong 8388608))
    ∷ []) (hex "000000800000000300000000")
unfolding named_length
refused_for_good = (
  hex "0000008000",
  (
    refl,
    (
      hex "0000008000",
      (
        waits _ (omega arith),
        (
          hex "000000800000",
          (
            refl,
            (
              hex "000000800000",
              (
                search arith,
                (
                  hex "000000800000000300000000",
                  (
                    refl,
                    (hex "000000800000000300000000", (search arith, refl)),
                  ),
                ),
              ),
            ),
          ),
        ),
      ),
    ),
  ),
)

-- the four frames of a client, and the front of another
pub opening : Splits
    (hex "000000000012" ++ version ++ hex "00020000001a" ++ login ++ hex "000300000007" ++ ping ++ hex "00090000000a" ++ state ++ hex "0003")
    (frame VERSION version ∷ frame AUTHENTICATE login ∷ frame PING ping ∷ frame USER_STATE state ∷ [])
    (hex "0003")
unfolding spelling_of
opening = record { whole = refl; each = search arith; no_frame = HasNoFrame-no_header _ (omega arith) }
