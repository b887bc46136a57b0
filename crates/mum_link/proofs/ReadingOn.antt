-- Reading on, step by step.
use Rattle.mum_link.proofs.Common.{◌≡◌, ℕ, List, [], ◌++◌, append_assoc, append-nil, ap, sym, ◌∙◌, refl, Option, Some, None, Consumes, ReadsOn}

-- nothing was read
pub reads_none : (reader : List ℕ) (left : Option (List ℕ)) → ReadsOn reader reader left left
reads_none reader None = ([], sym (append-nil reader), tt)
reads_none reader (Some xs) = ([], sym (append-nil reader), refl)

consumes_both : (left mid rest : Option (List ℕ)) (bytes more : List ℕ) → Consumes left mid bytes → Consumes mid rest more → Consumes left rest (bytes ++ more)
consumes_both None mid rest bytes more first then = tt
consumes_both (Some xs) None rest bytes more first then = elim first [ ]
consumes_both (Some xs) (Some ys) None bytes more first then = elim then [ ]
consumes_both (Some xs) (Some ys) (Some zs) bytes more first then =
    first ∙ ap (λ (tail : List ℕ). bytes ++ tail) then ∙ sym (append_assoc bytes more zs)

pub reads_both : (reader mid after : List ℕ) (left between rest : Option (List ℕ)) → ReadsOn reader mid left between → ReadsOn mid after between rest
    → ReadsOn reader after left rest
reads_both reader mid after left between rest (bytes, is, took) (more, then_is, then_took) = (
  bytes ++ more,
  then_is ∙ ap (λ (front : List ℕ). front ++ more) is ∙ append_assoc reader bytes more,
  consumes_both left between rest bytes more took then_took,
)
