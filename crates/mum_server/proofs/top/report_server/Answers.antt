-- A door, a crew and a keeper that failed, and bad rows, have a line each.
use Rattle.mum_server.proofs.top.report_server.Goals as goal

pub returns-in-DoorFault : goal.returns-in-DoorFault
returns-in-DoorFault g c = rw c.in-DoorFault.is (c.say_status.ensures.status, c.say_status.ensures.says)

pub returns-in-CrewFault : goal.returns-in-CrewFault
returns-in-CrewFault g c = rw c.in-CrewFault.is (c.say_status-in-CrewFault.ensures.status, c.say_status-in-CrewFault.ensures.says)

pub returns-in-KeeperFault : goal.returns-in-KeeperFault
returns-in-KeeperFault g c = rw c.in-KeeperFault.is (c.say_status-in-KeeperFault.ensures.status, c.say_status-in-KeeperFault.ensures.says)

pub returns-in-BadStore : goal.returns-in-BadStore
returns-in-BadStore g c = rw c.in-BadStore.is (c.say_status-in-BadStore.ensures.status, c.say_status-in-BadStore.ensures.says)
