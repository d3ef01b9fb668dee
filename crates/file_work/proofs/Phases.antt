-- How the parts of the work that only read follow one another.
use Rattle.std.proofs.Common.{◌≡◌, inl, inr, ℕ, List, [], ◌∷◌, Option, Result, Ok, Err, ◌∙◌, ap}
use Rattle.std.specs.Global.{Vec}
use Rattle.p4x_io.specs.Desk.{DeskView, Moves}
use Rattle.p4x_io.proofs.Desks.{rose_since}
use Rattle.file_work.specs.declared.stop.Stop.{Stop}
use Rattle.file_work.specs.declared.stop.Stop.TheVariants.{Fault, Usage}
use Rattle.file_work.specs.Phases.{line_view}
use Rattle.file_work.specs.Works.{Blames, Tells, ReadsRose}

-- what the desk tells stays, where nothing is written
pub tells_on : (names : List (List ℕ)) (old new : DeskView) (files : List ℕ → Option (List ℕ)) → Moves [] old new → Tells names old files → Tells names new files
tells_on [] old new files moves told = tt
tells_on (name ∷ names) old new files moves told = (moves.others name tt ∙ told.0, tells_on names old new files moves told.1)

-- a read count that rose behind some calls
pub reads_since : (outs names : List (List ℕ)) (a b c : DeskView) → Moves outs a b → ReadsRose names b c → ReadsRose names a c
reads_since outs [] a b c moves rose = rose
reads_since outs (name ∷ names) a b c moves (inl rose) = inl (rose_since _ _ _ (moves.reads name) rose)
reads_since outs (name ∷ names) a b c moves (inr rose) = inr (reads_since outs names a b c moves rose)

-- what is blamed, by what follows from it
pub blames_as : {A B : Type 0} (stop : Stop) (P Q : Type 0) → (P → Q) → Blames {A = A} (Err stop) P → Blames {A = B} (Err stop) Q
blames_as {A} {B} stop P Q so blames = record {
  fault = λ is. so (blames.fault (again _ is));
  usage = λ is. blames.usage (again _ is);
}
  where
    again : (other : Stop) → ◌≡◌ {A = Result B Stop} (Err stop) (Err other) → ◌≡◌ {A = Result A Stop} (Err stop) (Err other)
    again other is = cc

-- the same of a line as octets
pub blames_view : (result : Result (Vec ℕ) Stop) (cause : Type 0) → Blames result cause → Blames (line_view result) cause
blames_view (Ok line) cause blames = record { fault = λ is. absurd (cc is); usage = λ is. cc is }
blames_view (Err stop) cause blames = record {
  fault = λ is. let same : stop ≡ Fault = cc is in blames.fault (ap (λ (s : Stop). Err s) same);
  usage = λ is. let same : stop ≡ Usage = cc is in blames.usage (ap (λ (s : Stop). Err s) same);
}
