use Rattle.std.proofs.Common.{◌≡◌, drop}
use Rattle.tql_plan.specs.Maps.{products_keys, products_maps}
use Rattle.tql_plan.proofs.counts.Counts.with_products.Given as goal

-- invariant: the counts so far, plus those of the products left, are the whole counts
abbrev pub invariant-loop-product : goal.invariant-loop-product
invariant-loop-product l = record {
  maps : products_maps l.counts.maps (drop l.product-index l.products) ≡ products_maps l.fn.self.maps l.products;
  keys : products_keys l.counts.keys (drop l.product-index l.products) ≡ products_keys l.fn.self.keys l.products;
  intervals : l.counts.intervals ≡ l.fn.self.intervals;
}
