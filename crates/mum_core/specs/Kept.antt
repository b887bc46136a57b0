-- What the core and its parts keep true of their fields.
use Rattle.std.specs.Prelude.{◌≡◌, ◌≤◌, List, [], length, Result, Ok, Err}
use Rattle.std.specs.List.{All}
use Rattle.mum_base.specs.declared.number.TheConstants.{SLOTS}
use Rattle.mum_voice.specs.declared.fault.BadVoice.{BadVoice}
use Rattle.mum_voice.specs.Packet.{Parts}
use Rattle.mum_history.specs.{History.HistoryValue, View.IsViewOf, View.ViewValue}
use Rattle.mum_notify.specs.declared.notice.Notice.{Notice}
use Rattle.mum_core.specs.declared.outbox.Parcel.{Parcel}
use Rattle.mum_core.specs.Worker.{WorkerState}

-- each worker has a view of the history, and each slot an outbox and posts
pub record IsKept (history : HistoryValue) (views : List ViewValue) (workers : List WorkerState)
    (outboxes : List (List Parcel)) (posts : List (List Notice)) : Type 0 where
  pub views_of : All (IsViewOf history.opening history.accepted) views
  pub a_view_each : length views ≡ length workers
  -- the number of a worker is a byte
  pub few_views : length views ≤ 255
  pub an_outbox_each : length outboxes ≡ SLOTS
  pub posts_each : length posts ≡ SLOTS

-- the parts of bytes that are a packet
abbrev pub parts_in : Result Parts BadVoice → Parts
parts_in (Ok parts) = parts
parts_in (Err fault) = record { kind = 0; target = 0; sequence = []; audio = []; position = [] }
