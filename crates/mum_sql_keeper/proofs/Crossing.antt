-- A keeper over a file may go to another thread. The parts of a connection are too many for a search, so they are named.
use denote.Param.Send.{IsSend, sendable, recorded_send, struct_send, view_send}
use Rattle.mum_base.proofs.items.Text.TheSendSync as text
use Rattle.mum_base.specs.contracts.items.Text
use Rattle.mum_keeper.proofs.change.Change.TheSendSync as change
use Rattle.mum_keeper.specs.contracts.change.Change
use Rattle.mum_sql_keeper.proofs.failures.Failures.TheSendSync as failures
use Rattle.mum_sql_keeper.specs.contracts.sql_keeper.SqlKeeper
use Rattle.mum_sql_keeper.specs.contracts.sql_keeper.SqlKeeper.TheInside
use Rattle.sqlite.below.sqlite_std_file.specs.contracts.host.Host
use Rattle.sqlite.below.sqlite_std_file.specs.contracts.host.HostCalls.TheImpl as host_calls
use Rattle.sqlite.below.sqlite_store.specs.contracts.store.FileStoreStore.TheImpl as file_store
use Rattle.sqlite.specs.contracts.FileStore
use Rattle.sqlite.specs.contracts.connection.Connection
use Rattle.sqlite.proofs.connection.Connection.TheSendSync as connection
use Rattle.sqlite.proofs.FileStore.TheSendSync as store
use Rattle.sqlite_disk.proofs.modelled.Modelled.TheSendSync as modelled
use Rattle.sqlite_disk.specs.contracts.modelled.Modelled
use Rattle.sqlite_disk.specs.contracts.modelled.ModelledDisk.TheImpl as disk
use Rattle.sqlite_disk.specs.contracts.start.Unknown
use Rattle.sqlite_disk.specs.contracts.start.UnknownStart.TheImpl as unknown
use Rattle.std.proofs.option.Option.TheSendSync as option
use Rattle.std.proofs.rt.LibcRuntime.TheSendSync as runtime
use Rattle.std.proofs.vec.Vec.TheSendSync as vec
use Rattle.std.proofs.Crossing as heap
use Rattle.std.specs.contracts.alloc.Global
use Rattle.std.specs.contracts.impls.GlobalAllocator.TheImpl as global
use Rattle.std.specs.contracts.option.Option
use denote.RattleType
use denote.Struct.Declared

-- the disk of a file of which nothing is supposed, and a store on it
abbrev disk_row : RattleType.RattleType
disk_row = Modelled.the_row Host.the_row Unknown.the_row host_calls.ghosts unknown.ghosts

host_send : IsSend Host.the_row
host_send = search sendable depth 20

disk_send : IsSend disk_row
disk_send = modelled.the_send _ _ _ _ host_send

abbrev store_row : RattleType.RattleType
store_row =
    FileStore.the_row disk_row
    (disk.ghosts Host.the_row Unknown.the_row host_calls.ghosts disk.no_dict unknown.ghosts disk.no_dict disk.no_dict)

store_send : IsSend store_row
store_send = store.the_send _ _ disk_send

abbrev file_row : RattleType.RattleType
file_row =
    Connection.the_row store_row
    (file_store.ghosts
    disk_row
    (disk.ghosts Host.the_row Unknown.the_row host_calls.ghosts disk.no_dict unknown.ghosts disk.no_dict disk.no_dict)
    file_store.no_dict)

file_send : IsSend file_row
file_send =
    connection.the_send store_row
    (file_store.ghosts
    disk_row
    (disk.ghosts Host.the_row Unknown.the_row host_calls.ghosts disk.no_dict unknown.ghosts disk.no_dict disk.no_dict)
    file_store.no_dict)
    store_send

open_send : IsSend (Option.the_field file_row).row
open_send = option.the_field_send _ file_send

path_send : IsSend (Option.the_field Text.the_row).row
path_send = option.the_field_send _ text.the_send

global_send : IsSend Global.the_row
global_send = search sendable depth 20

pub keeper_send : IsSend SqlKeeper.the_row
keeper_send =
    view_send TheInside.the_row _ _ _ _
    (recorded_send (TheInside.the_field).row _ _ (TheInside.the_type).to_one
    (struct_send (Declared.shape TheInside.the_type)
    (runtime.the_field_send, (path_send, (open_send, (vec.the_send Change.the_row Global.the_row global.ghosts change.the_send global_send heap.frees, (failures.the_send, tt)))))))
