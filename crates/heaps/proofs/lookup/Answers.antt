use Rattle.heaps.proofs.Lookups.{string-inside, blob-inside}
use Rattle.heaps.proofs.lookup.Goals as goal

pub hand-requires : goal.hand-requires
hand-requires c = rw c.get_string.ensures (string-inside _ _)

pub hand-requires-in-Blobs : goal.hand-requires-in-Blobs
hand-requires-in-Blobs c = rw c.get_blob.ensures (blob-inside _ _)
