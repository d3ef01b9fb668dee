-- What the test of names that are apart says.
use Rattle.std.proofs.Common.{◌≡◌, ℕ, Bool, true, false, not, ◌&&◌, ◌||◌, List, [], ◌∷◌, refl}
use Rattle.std.specs.Str.{bytes_eq}
use Rattle.std.proofs.lemmas.Slice.Eq.{bytes_eq-Decides}
use Rattle.p4x_io.specs.Desk.{NoneIs}
use Rattle.command_words.specs.Apart.{is_among, are_apart, AreApart}

both : (a b : Bool) → (a && b) ≡ true → (a ≡ true) × (b ≡ true)
both true b is = (refl, is)
both false b is = absurd (cc is)

pub last : (a b : Bool) → (a && b) ≡ true → b ≡ true
last a b is = (both a b is).1

neither : (a b : Bool) → not (a || b) ≡ true → (a ≡ false) × (not b ≡ true)
neither true b is = absurd (cc is)
neither false b is = (refl, is)

none_is : (name : List ℕ) (names : List (List ℕ)) → not (is_among name names) ≡ true → NoneIs name names
none_is name [] is = tt
none_is name (other ∷ names) is =
    let parts = neither (bytes_eq name other) (is_among name names) is in
    ((λ same. let equal = (bytes_eq-Decides name other).1 same in let not_equal = parts.0 in cc (equal, not_equal)), none_is name names parts.1)

pub apart_is : (inputs outputs : List (List ℕ)) → are_apart inputs outputs ≡ true → AreApart inputs outputs
apart_is inputs [] is = tt
apart_is inputs (out ∷ outs) is =
    let parts = both (not (is_among out inputs)) (not (is_among out outs) && are_apart inputs outs) is in
    let rest = both (not (is_among out outs)) (are_apart inputs outs) parts.1 in
    (none_is out inputs parts.0, none_is out outs rest.0, apart_is inputs outs rest.1)
