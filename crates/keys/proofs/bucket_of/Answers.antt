use native.Mathlib.Omega.{arith}
use Rattle.keys.proofs.Buckets.{bucket-is}
use Rattle.keys.proofs.bucket_of.Goals as goal

pub returns : goal.returns
returns c = λ f s.
    bucket-is f _ _ _ s (omega arith) c.wide.ensures.0 c.wide-2.ensures.0
