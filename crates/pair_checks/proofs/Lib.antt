-- That the contracts settle the reply and every lent word; that good routes are all accepted, and no others.
pub mod Judged
pub mod RouteSettled
pub mod AllAndOnly
