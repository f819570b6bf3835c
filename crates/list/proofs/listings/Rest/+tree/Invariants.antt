-- `listings::Rest::tree`: each child has one depth less left. Assumes nothing.
use Rattle.list.proofs.listings.Rest.+tree.Given as goal

abbrev pub decreases-tree : goal.decreases-tree
decreases-tree g l = l.d
