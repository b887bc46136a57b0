-- Which of several ways to reach a session comes first.
use Rattle.mum_route.proofs.Common.{◌≡◌, ◌||◌, Bool, true, false, cond, Option, Some, None, refl, Context, ChannelWhisper, DirectWhisper, Listener, first_of}

-- the first of three ways that applies
abbrev pub pick : Context → Bool → Bool → Bool → Option Context
pick inside within named listens = cond within (Some inside) (cond named (Some DirectWhisper) (cond listens (Some Listener) None))

-- what applies by one of two is the first of what applies by each
pub pick_either : (a b c x y z : Bool) → pick ChannelWhisper (a || x) (b || y) (c || z) ≡ first_of (pick ChannelWhisper a b c) (pick ChannelWhisper x y z)
pick_either true b c true y z = refl
pick_either true b c false true z = refl
pick_either true b c false false true = refl
pick_either true b c false false false = refl
pick_either false true c true y z = refl
pick_either false true c false true z = refl
pick_either false true c false false true = refl
pick_either false true c false false false = refl
pick_either false false true true y z = refl
pick_either false false true false true z = refl
pick_either false false true false false true = refl
pick_either false false true false false false = refl
pick_either false false false x y z = refl
