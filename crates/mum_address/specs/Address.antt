-- The forms of an address at which the server listens.
use Rattle.std.specs.Prelude.{ℕ, ◌≡◌, ◌≢◌, ◌⊎◌, Bool, true, false, List, [], ◌++◌, codes}
use Rattle.std.specs.declared.net.socket_addr.SocketAddr.{SocketAddr}
use Rattle.std.specs.Net.{Addr.ipv4_octets, Addr.ipv6_octets, Socket.v4_ip, Socket.v6_ip, Grammar.IsSocketText}
use Rattle.mum_address.specs.declared.address.Place.{Place, TheVariants.Port, TheVariants.Path}
use Rattle.mum_address.specs.declared.address.Address.{Address}
use Rattle.mum_address.specs.Header.{mapped_octets}
use Rattle.std.specs.declared.net.socket_addr.SocketAddr.TheVariants as Socket

-- the text has no such prefix
abbrev pub Lacks : List ℕ → List ℕ → Type 0
Lacks prefix text = (rest : List ℕ) → text ≢ prefix ++ rest

-- the text of a socket in the machine: a path that is not empty after `unix:`
abbrev pub IsSocketPath : List ℕ → List ℕ → Type 0
IsSocketPath text path = (text ≡ codes "unix:" ++ path) × (path ≢ [])

-- the text of a place: that of a socket in the machine, or a socket address of std
abbrev pub IsPlaceText : List ℕ → Place → Type 0
IsPlaceText text (Port address) = Lacks (codes "unix:") text × IsSocketText text address
IsPlaceText text (Path path) = IsSocketPath text path.now

-- the text of an address: the text of its place, after `proxy:` where connections begin with headers
abbrev pub IsTextBy : Bool → List ℕ → Place → Type 0
IsTextBy true text place = (rest : List ℕ) × (text ≡ codes "proxy:" ++ rest) × IsPlaceText rest place
IsTextBy false text place = Lacks (codes "proxy:") text × IsPlaceText text place

-- whether each connection begins with the header of a relay: exactly where the text begins with `proxy:`
abbrev pub SaysHeaders : List ℕ → Bool → Type 0
SaysHeaders text true = (rest : List ℕ) × (text ≡ codes "proxy:" ++ rest)
SaysHeaders text false = Lacks (codes "proxy:") text

abbrev pub IsAddressText : List ℕ → Address → Type 0
IsAddressText text address = IsTextBy address.has_headers text address.place

-- the octets of the host's address as IPv6 writes it
abbrev pub host_octets : SocketAddr → List ℕ
host_octets (Socket.V4 address) = mapped_octets (ipv4_octets (v4_ip address))
host_octets (Socket.V6 address) = ipv6_octets (v6_ip address)

-- a word that says whether connections are reported
abbrev pub IsLogWord : List ℕ → Bool → Type 0
IsLogWord word true = (word ≡ codes "all") ⊎ (word ≡ codes "on")
IsLogWord word false = (word ≡ codes "none") ⊎ (word ≡ codes "off")
