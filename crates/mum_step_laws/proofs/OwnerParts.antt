-- What an owner publishes is what the step Publish makes of the core.
use Rattle.mum_step_laws.proofs.Common.{◌∙◌, length, refl, sym, ap, append-nil, OwnerFacts, appended, PublishesArePublishes}

module _ {D L : Type 0} where
  pub publishes : PublishesArePublishes D L
  publishes old new done core owns = (
    refl,
    record {
      opening_is = owns.opening_is ∙ ap (λ (o : OwnerFacts D L). o.control.publisher.opening.state) (sym done);
      accepted_are = owns.accepted_are ∙ sym (append-nil (appended old.control.publisher)) ∙ ap (λ (o : OwnerFacts D L). appended o.control.publisher) (sym done);
      published_are = ap length owns.accepted_are ∙ ap (λ (o : OwnerFacts D L). length o.control.publisher.published) (sym done);
      pending_are = owns.pending_are ∙ ap (λ (o : OwnerFacts D L). o.control.pending) (sym done);
    },
  )
