-- What rates with bursts allow.
use Rattle.std.specs.{Prelude.{ℕ, ◌+◌, ◌*◌, min, get_or}, Int.div_ceil}
use Rattle.mh_classes.specs.Numbers.{class_number}
use Rattle.mh_orders.specs.declared.rates.Rates.{Rates}

-- how many blocks of the class of a size rates allow in so many units of the mutator: its burst once and its share of the units, rounded up, and no more
-- than there are units
unfoldable pub allowed_by : Rates → ℕ → ℕ → ℕ
allowed_by rates size units =
    let class = class_number size in
    min units (get_or rates.bursts class 0 + div_ceil (units * get_or rates.parts class 0) (get_or rates.units class 1))
