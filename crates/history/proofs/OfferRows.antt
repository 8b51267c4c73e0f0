-- A refusal of an offer has the number of its row of the table. Assumes nothing.
use mathlib.Core.Path.{◌≡◌, refl}
use Rattle.answers.specs.declared.WalkRefusal.TheVariants.{NoSlots, NoRoom}
use Rattle.history.specs.declared.OfferRefusal.{OfferRefusal}
use Rattle.history.specs.declared.OfferRefusal.TheVariants.{Malformed, Empty, File, Bound, Letters, Dead, NotSmaller, Walk}
use Rattle.history.specs.OfferAnswers.{offer_refusal_number, offer_row, row_number}

pub row_numbered : (r : OfferRefusal) → row_number (offer_row r) ≡ offer_refusal_number r
row_numbered Malformed = refl
row_numbered Empty = refl
row_numbered (File f) = refl
row_numbered Bound = refl
row_numbered Letters = refl
row_numbered Dead = refl
row_numbered NotSmaller = refl
row_numbered (Walk i (NoSlots n)) = refl
row_numbered (Walk i (NoRoom len)) = refl
