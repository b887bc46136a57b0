-- What a frame asks for is a command of a frame.
use Rattle.mum_port.proofs.Common.{◌≡◌, ℕ, List, refl, sym, action, Machine, Action, Ask, Bans, Echo, Ignore, Keep, Voice, AsksAsHeard}

pub asks-as_heard : (machine : Machine) (kind : ℕ) (payload : List ℕ) (asked : Action) → asked ≡ action machine kind payload → AsksAsHeard asked
asks-as_heard machine kind payload (Ask command) is =
    record { machine = machine; kind = kind; payload = payload; command = command; asks = sym is; what_is = refl }
asks-as_heard machine kind payload (Voice packet) is = tt
asks-as_heard machine kind payload (Echo wire) is = tt
asks-as_heard machine kind payload Keep is = tt
asks-as_heard machine kind payload (Ignore why) is = tt
asks-as_heard machine kind payload (Bans list) is = tt
