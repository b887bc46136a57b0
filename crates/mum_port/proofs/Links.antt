-- What follows of what a link reports of its bytes.
use Rattle.mum_port.proofs.Common.{ℕ, List, [], ◌++◌, Option, Some, None, sym, ◌∙◌, ap, Appends, Consumes, Keeps, append-nil}

-- bytes that stay are consumed by none
pub Keeps-consumes : (old new : Option (List ℕ)) → Keeps old new → Consumes old new []
Keeps-consumes None new keeps = tt
Keeps-consumes (Some xs) None keeps = absurd keeps
Keeps-consumes (Some xs) (Some ys) keeps = sym keeps

-- and grow by none
pub Keeps-appends : (old new : Option (List ℕ)) → Keeps old new → Appends old new []
Keeps-appends None new keeps = tt
Keeps-appends (Some xs) None keeps = absurd keeps
Keeps-appends (Some xs) (Some ys) keeps = keeps ∙ sym (append-nil xs)

-- what stays before or after bytes are consumed
pub Consumes-keeps : (old mid new : Option (List ℕ)) (bytes : List ℕ) → Consumes old mid bytes → Keeps mid new → Consumes old new bytes
Consumes-keeps None mid new bytes one two = tt
Consumes-keeps (Some xs) None new bytes one two = absurd one
Consumes-keeps (Some xs) (Some ys) None bytes one two = absurd two
Consumes-keeps (Some xs) (Some ys) (Some zs) bytes one two = one ∙ ap (λ l. bytes ++ l) (sym two)

pub Keeps-then_appends : (old mid new : Option (List ℕ)) (bytes : List ℕ) → Keeps old mid → Appends mid new bytes → Appends old new bytes
Keeps-then_appends None mid new bytes one two = tt
Keeps-then_appends (Some xs) None new bytes one two = absurd one
Keeps-then_appends (Some xs) (Some ys) None bytes one two = absurd two
Keeps-then_appends (Some xs) (Some ys) (Some zs) bytes one two = two ∙ ap (λ l. l ++ bytes) one

pub Appends-keeps : (old mid new : Option (List ℕ)) (bytes : List ℕ) → Appends old mid bytes → Keeps mid new → Appends old new bytes
Appends-keeps None mid new bytes one two = tt
Appends-keeps (Some xs) None new bytes one two = absurd one
Appends-keeps (Some xs) (Some ys) None bytes one two = absurd two
Appends-keeps (Some xs) (Some ys) (Some zs) bytes one two = two ∙ one
