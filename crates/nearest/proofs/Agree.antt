-- Different answers go to different numbers or values, so two answers that meet the promise are the same. Assumes nothing.
use mathlib.Core.Path.{◌≡◌, ap}
use Rattle.float.specs.Refusal.{number}
use Rattle.float.proofs.Refusals.{numbers_differ}
use Rattle.nearest.specs.Choose.{Nearest}
use Rattle.nearest.specs.Nearest.{nearest_answer}
use Rattle.nearest.specs.declared.NearestPoint.{NearestPoint}
use Rattle.nearest.specs.declared.NearestPoint.TheVariants as nearest

pub same_nearest : (r r' : NearestPoint) → nearest_answer r ≡ nearest_answer r' → r ≡ r'
unfolding nearest_answer
same_nearest (nearest.Found t d) (nearest.Found t' d') e =
    let n : ◌≡◌ {A = Nearest} (record { t = t; distance_sq_is = d }) (record { t = t'; distance_sq_is = d' }) = cc in
    ap (λ (x : Nearest). nearest.Found x.t x.distance_sq_is) n
same_nearest (nearest.Found t d) (nearest.Refused q) e = cc
same_nearest (nearest.Refused q) (nearest.Found t d) e = cc
same_nearest (nearest.Refused q) (nearest.Refused q') e = let n : number q ≡ number q' = cc in ap nearest.Refused (numbers_differ q q' n)
