-- Worked addresses, so that a wrong rule in the specs does not check.
use Rattle.mum_address.proofs.Common.{◌≡◌, ℕ, List, [], ◌++◌, length, codes, true, false, refl, sym, ap, ◌∙◌, arith, get_or, append_cancel_left, length-append, Bor, Place, Port, Path, IsPlaceText, IsTextBy}
use Rattle.std.specs.declared.net.socket_addr.SocketAddr.TheVariants as Socket

first : List ℕ → ℕ
first text = get_or text 0 0

pub a_path : (text : Bor (List ℕ)) → text.now ≡ codes "/run/murmur" → IsTextBy false (codes "unix:/run/murmur") (Path text)
unfolding first
a_path text is = (
  λ rest e. absurd (let f : first (codes "unix:/run/murmur") ≡ first (codes "proxy:" ++ rest) = ap first e in omega (arith, f)),
  (ap (λ (p : List ℕ). codes "unix:" ++ p) (sym is), λ e. absurd (omega (arith, ap length (sym is ∙ e)))),
)

pub path_behind_a_relay : (text : Bor (List ℕ)) → text.now ≡ codes "/run/murmur" → IsTextBy true (codes "proxy:unix:/run/murmur") (Path text)
path_behind_a_relay text is =
    (codes "unix:/run/murmur", refl, (ap (λ (p : List ℕ). codes "unix:" ++ p) (sym is), λ e. absurd (omega (arith, ap length (sym is ∙ e)))))

pub no_path : (place : Place) → IsPlaceText (codes "unix:") place → ⊥
no_path (Port address) is = is.0 [] refl
no_path (Path path) is = is.1 (append_cancel_left (codes "unix:") path.now [] (sym is.0))

pub nothing : (place : Place) → IsPlaceText [] place → ⊥
nothing (Port (Socket.V4 address)) is =
    let text = is.1 in
    absurd (omega (arith, ap length text.2, length-append text.0 text.1, ap length text.4.1))
nothing (Port (Socket.V6 address)) is = absurd (omega (arith, ap length is.1.spelled))
nothing (Path path) is = absurd (omega (arith, ap length is.0))
