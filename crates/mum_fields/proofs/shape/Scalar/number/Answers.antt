use Rattle.mum_fields.proofs.Common.{refl, Unsigned32, Unsigned64, Signed32, Truth}
use Rattle.mum_fields.proofs.Outlines.{number-is}
use Rattle.mum_fields.proofs.shape.Scalar.number.Goals as goal

pub returns-in-Unsigned32 : goal.returns-in-Unsigned32
returns-in-Unsigned32 c = number-is c.args.self Unsigned32 c.args.varint _ c.in-Unsigned32.is c.respelled.ensures

pub returns-in-Unsigned64 : goal.returns-in-Unsigned64
returns-in-Unsigned64 c = number-is c.args.self Unsigned64 c.args.varint _ c.in-Unsigned64.is refl

pub returns-in-Signed32 : goal.returns-in-Signed32
returns-in-Signed32 c = number-is c.args.self Signed32 c.args.varint _ c.in-Signed32.is c.respelled-in-Signed32.ensures

pub returns-in-Truth : goal.returns-in-Truth
returns-in-Truth c = number-is c.args.self Truth c.args.varint _ c.in-Truth.is c.respelled-in-Truth.ensures
