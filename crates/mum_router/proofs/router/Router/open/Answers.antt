use Rattle.mum_router.proofs.Common.{List, ap, length, sym, ◌∙◌, min, length-map, BoxFacts, VoiceFacts, LAST, state_of, AskAt, new_pass, nothing_sound}
use Rattle.mum_router.proofs.router.Router.open.Goals as goal

pub invariant_of-result : goal.invariant_of-result
invariant_of-result g c = (
  c.requires.opening,
  c.requires.proper,
  nothing_sound (state_of g.N.Naming.opening c.args.pass.seen) c.in_ok-caches.caches c.in_ok-caches.ensures.perms c.in_ok-caches.ensures.routes,
  ap (λ (outs : List (BoxFacts VoiceFacts)). length outs) c.in_ok-outs.ensures ∙ length-map c.args.voices.items new_pass ∙ c.requires.boxes,
  sym (ap (λ (asks : List AskAt). min (length asks) LAST) c.requires.no_look),
)
